-- What a test says of a value, by three values, and what it takes that one fits a column.
use Rattle.std.specs.Prelude as Prelude
use Rattle.std.specs.Prelude.{ℕ, List, [], ◌∷◌, true, false, ◌||◌, ◌&&◌}
use Rattle.std.specs.List.{list_any, list_all, starts_with, ends_with}
use Rattle.std.specs.Ordering.{is_lt, is_le, is_gt, is_ge}
use Rattle.std.specs.Char.{eq_ignore_ascii_case}
use Rattle.qe_base.specs.Values.{value_cmp, value_eq, bytes_in}
use Rattle.qe_base.specs.declared.value.Kind.{Kind}
use Rattle.qe_base.specs.declared.value.Kind.TheVariants as kind
use Rattle.qe_base.specs.declared.value.Row.{Row}
use Rattle.qe_base.specs.declared.value.Value.{Value}
use Rattle.qe_base.specs.declared.schema.Choice.{Choice}
use Rattle.qe_base.specs.declared.schema.Column.{Column}
use Rattle.qe_base.specs.declared.query.Like.{Like}
use Rattle.qe_base.specs.declared.query.Like.TheVariants as like
use Rattle.qe_base.specs.declared.query.Test.{Test}
use Rattle.qe_base.specs.declared.query.Test.TheVariants as test
use Rattle.qe_base.specs.declared.query.ColumnTest.{ColumnTest}
use Rattle.qe_schema.specs.Columns.{is_null, value_at}
use Rattle.qe_schema.specs.Fits.{is_of_kind}
use Rattle.qe_schema.specs.declared.truth.Truth.{Truth}
use Rattle.qe_schema.specs.declared.truth.Truth.TheVariants.{Yes, No, Unknown}

-- ---- what a test says

abbrev pub is_yes : Truth → Prelude.Bool
is_yes Yes = true
is_yes No = false
is_yes Unknown = false

abbrev pub yes_if : Prelude.Bool → Truth
yes_if true = Yes
yes_if false = No

-- the needle stands somewhere in the text; letters of ASCII are the same in both cases
abbrev pub is_inside : List ℕ → List ℕ → Prelude.Bool
is_inside needle [] = starts_with eq_ignore_ascii_case [] needle
is_inside needle (byte ∷ text) = starts_with eq_ignore_ascii_case (byte ∷ text) needle || is_inside needle text

-- the needle stands in the text, where it is asked
abbrev pub is_like : Like → List ℕ → List ℕ → Prelude.Bool
is_like like.Inside needle text = is_inside needle text
is_like like.Begin needle text = starts_with eq_ignore_ascii_case text needle
is_like like.End needle text = ends_with eq_ignore_ascii_case text needle

-- a test of null is unknown
abbrev pub unless_null : Prelude.Bool → Prelude.Bool → Truth
unless_null true holds = Unknown
unless_null false holds = yes_if holds

-- none of no values is any value's, also of null
abbrev pub one_of : List Value → Value → Truth
one_of [] value = No
one_of (wanted ∷ more) value = unless_null (is_null value) (list_any (value_eq value) (wanted ∷ more))

-- what a test says of a value
abbrev pub test_of : Test → Value → Truth
test_of test.IsNull value = yes_if (is_null value)
test_of (test.Equals wanted) value = unless_null (is_null value) (value_eq value wanted)
test_of (test.OneOf wanted) value = one_of wanted value
test_of (test.Less bound) value = unless_null (is_null value) (is_lt (value_cmp value bound))
test_of (test.AtMost bound) value = unless_null (is_null value) (is_le (value_cmp value bound))
test_of (test.Greater bound) value = unless_null (is_null value) (is_gt (value_cmp value bound))
test_of (test.AtLeast bound) value = unless_null (is_null value) (is_ge (value_cmp value bound))
test_of (test.Like how needle) value = unless_null (is_null value) (is_like how needle (bytes_in value))

-- each test says Yes of the row's value in its column
abbrev pub passes : List ColumnTest → Row → Prelude.Bool
passes tests row = list_all (λ asked. is_yes (test_of asked.test (value_at row asked.column))) tests

-- ---- what fits a column

-- all but true and false may stand in a list
abbrev pub takes_list : Kind → Prelude.Bool
takes_list kind.Text = true
takes_list kind.Bool = false
takes_list kind.Int = true
takes_list kind.Big = true
takes_list kind.Moment = true
takes_list kind.Blob = true
takes_list (kind.Member enum) = true

-- texts, numbers and moments have an order
abbrev pub takes_order : Kind → Prelude.Bool
takes_order kind.Text = true
takes_order kind.Bool = false
takes_order kind.Int = true
takes_order kind.Big = true
takes_order kind.Moment = true
takes_order kind.Blob = false
takes_order (kind.Member enum) = false

abbrev pub takes_search : Kind → Prelude.Bool
takes_search kind.Text = true
takes_search kind.Bool = false
takes_search kind.Int = false
takes_search kind.Big = false
takes_search kind.Moment = false
takes_search kind.Blob = false
takes_search (kind.Member enum) = false

-- the test is one of the column's kind, with values of this kind; only an optional column is asked for null
abbrev pub test_fits : List Choice → Test → Column → Prelude.Bool
test_fits choices test.IsNull column = column.optional
test_fits choices (test.Equals wanted) column = is_of_kind choices column.kind wanted
test_fits choices (test.OneOf wanted) column = takes_list column.kind && list_all (is_of_kind choices column.kind) wanted
test_fits choices (test.Less bound) column = takes_order column.kind && is_of_kind choices column.kind bound
test_fits choices (test.AtMost bound) column = takes_order column.kind && is_of_kind choices column.kind bound
test_fits choices (test.Greater bound) column = takes_order column.kind && is_of_kind choices column.kind bound
test_fits choices (test.AtLeast bound) column = takes_order column.kind && is_of_kind choices column.kind bound
test_fits choices (test.Like how needle) column = takes_search column.kind
