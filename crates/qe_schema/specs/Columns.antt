-- What rows hold in columns.
use Rattle.std.specs.Prelude as Prelude
use Rattle.std.specs.Prelude.{ℕ, List, true, false, ◌&&◌, not, map, slice_get, unwrap_or}
use Rattle.std.specs.List.{list_any}
use Rattle.std.specs.Cmp.Lexicographic.{pointwise, slice_cmp}
use Rattle.std.specs.declared.cmp.Ordering.{Ordering}
use Rattle.qe_base.specs.declared.value.Value.{Value}
use Rattle.qe_base.specs.declared.value.Value.TheVariants.{Null, Text, Bool, Int, Moment, Blob, Member}
use Rattle.qe_base.specs.declared.value.Row.{Row}
use Rattle.qe_base.specs.Values.{value_cmp, value_eq}

-- the values of an id, of a key or of a reference
abbrev pub Values : Type 0
Values = List Value

abbrev pub is_null : Value → Prelude.Bool
is_null Null = true
is_null (Text text) = false
is_null (Bool truth) = false
is_null (Int number) = false
is_null (Moment moment) = false
is_null (Blob bytes) = false
is_null (Member member) = false

abbrev pub has_null : Values → Prelude.Bool
has_null = list_any is_null

abbrev pub are_same : Values → Values → Prelude.Bool
are_same = pointwise value_eq

-- by the first values that differ
abbrev pub values_cmp : Values → Values → Ordering
values_cmp = slice_cmp value_cmp

-- the value in a column, null where there is no such column
abbrev pub value_at : Row → ℕ → Value
value_at row column = unwrap_or (slice_get row.values column) Null

abbrev pub at_columns : List ℕ → Row → Values
at_columns columns row = map (value_at row) columns

-- the row has these values in the columns, and none of them is null
abbrev pub holds : List ℕ → Values → Row → Prelude.Bool
holds columns values row = not (has_null values) && are_same (at_columns columns row) values
