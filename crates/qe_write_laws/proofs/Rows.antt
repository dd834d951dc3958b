-- New and edited rows fit.
use Rattle.std.proofs.Common.{◌≡◌, ℕ, ℤ, pos, ◌+ℤ◌, ◌-ℤ◌, ◌*ℤ◌, int_div, Bool, true, false, not, ◌&&◌, ◌||◌, List, [], ◌∷◌, map, Option, Some, None, IfSome, Result, Ok, Err, IfOk, refl, sym, ap, subst, ◌∙◌, true≢false}
use Rattle.std.specs.Prelude.{if◌then◌else◌}
use Rattle.std.specs.List.{list_all, enumerate_from, AllByRecursion}
use Rattle.std.specs.Ordering.{int_eq}
use Rattle.std.proofs.lemmas.Bool.{and_from}
use Rattle.qe_scalars.specs.Moments.{is_moment}
use Rattle.qe_base.specs.declared.value.Kind.TheVariants as kind
use Rattle.qe_base.specs.declared.value.Row.{Row}
use Rattle.qe_base.specs.declared.value.Value.{Value}
use Rattle.qe_base.specs.declared.value.Value.TheVariants.{Null, Text, Bool as Truth, Int, Moment, Blob, Member}
use Rattle.qe_base.specs.declared.schema.Choice.{Choice}
use Rattle.qe_base.specs.declared.schema.Column.{Column}
use Rattle.qe_base.specs.declared.schema.Fill.{Fill}
use Rattle.qe_base.specs.declared.schema.Fill.TheVariants.{Absent, Literal, Counter, Now, Uuid}
use Rattle.qe_base.specs.declared.answer.Outside.{Outside}
use Rattle.qe_base.specs.declared.answer.Rule.{Rule}
use Rattle.qe_base.specs.declared.answer.Why.{Why}
use Rattle.qe_base.specs.declared.answer.Why.TheVariants as why
use Rattle.qe_base.specs.declared.write.Edit.{Edit}
use Rattle.qe_base.specs.declared.write.Edit.TheVariants.{Set, Add, Subtract, Multiply, Divide}
use Rattle.qe_base.specs.Schemas.{Schema}
use Rattle.qe_schema.specs.Columns.{value_at}
use Rattle.qe_schema.specs.Fits.{fits_column, fit_columns, is_of_kind, has_number, has_moment}
use Rattle.qe_schema.specs.Tables.{Tables, table_at, column_at}
use Rattle.qe_reading.specs.Related.{is_some_such}
use Rattle.qe_writing.specs.Fill.{Found, identifier, at_moment, counted, with_drawn, fill_value, ungiven, value_in, given_for, fill_from, filled}
use Rattle.qe_writing.specs.Edits.{within, on_number, quotient, edit_value, or_no_value, unedited, edited_value, edit_for, edit_from, edited}
use Rattle.qe_writing.specs.Numbers.{is_one_of}
use Rattle.qe_writing.specs.WriteFits.{value_fits, edit_suits, edit_fits, is_absent, must_be_given, are_enough}
use Rattle.qe_write_laws.specs.Keeps.{row_fits}
use Rattle.qe_schema.specs.Fields.{FillSuits, ColumnSuits}
use Rattle.qe_schema.specs.Sound.{IsSound}
use Rattle.qe_write_laws.proofs.Results.{bind_ok, if_ok}
use Rattle.qe_write_laws.proofs.Lists.{all_with, all_from_test, numbered, seconds_from, entry_passes, entry_there}
use Rattle.qe_write_laws.proofs.Columns as columns

-- ---- values for columns

abbrev ValueFits : List Choice → Column → Value → Type 0
ValueFits choices column value = fits_column choices column value ≡ true

abbrev FoundFits : List Choice → Column → Result Found Rule → Type 0
FoundFits choices column result = IfOk result (λ found. fits_column choices column found.value ≡ true)

abbrev ResultFits : List Choice → Column → Result Value Rule → Type 0
ResultFits choices column result = IfOk result (λ value. fits_column choices column value ≡ true)

moment_fits : (choices : List Choice) (column : Column) (table number : ℕ) (outside : Outside) → column.kind ≡ kind.Moment → ResultFits choices column (at_moment table number outside)
moment_fits choices column table number outside is = if_ok (is_moment outside.moment) (Moment outside.moment) _ (λ value. fits_column choices column value ≡ true) (λ holds. ap (λ k. has_moment k outside.moment) is ∙ holds)

counted_fits : (choices : List Choice) (column : Column) (table number : ℕ) (last : ℤ) → ResultFits choices column (counted table number column.kind last)
counted_fits choices column table number last = if_ok (has_number column.kind (last +ℤ pos 1)) (Int (last +ℤ pos 1)) _ (λ value. fits_column choices column value ≡ true) (λ holds. holds)

drawn_fits : (choices : List Choice) (column : Column) (drawn : ℕ) (result : Result Value Rule) → ResultFits choices column result → FoundFits choices column (with_drawn drawn result)
drawn_fits choices column drawn (Ok value) fits = fits
drawn_fits choices column drawn (Err broken) fits = tt

-- a column that no longer has to be given is optional where nothing fills it
optional_then : (optional : Bool) → (not optional && not false && true) ≡ false → optional ≡ true
optional_then true free = refl
optional_then false free = absurd (true≢false free)

fill_fits : (choices : List Choice) (column : Column) (table number : ℕ) (outside : Outside) (last : ℤ) (drawn : ℕ) (fill : Fill) → FillSuits choices column fill → (not column.optional && not false && is_absent fill) ≡ false
    → FoundFits choices column (fill_value table number column.kind outside last drawn fill)
fill_fits choices column table number outside last drawn Absent suits free = optional_then column.optional free
fill_fits choices column table number outside last drawn (Literal value) suits free = suits
fill_fits choices column table number outside last drawn Counter suits free = drawn_fits choices column drawn (counted table number column.kind last) (counted_fits choices column table number last)
fill_fits choices column table number outside last drawn Now suits free = drawn_fits choices column drawn (at_moment table number outside) (moment_fits choices column table number outside suits)
fill_fits choices column table number outside last drawn Uuid suits free = ap (λ k. is_of_kind choices k (Text (identifier outside.seed drawn))) suits

ungiven_fits : (choices : List Choice) (column : Column) (table number : ℕ) (outside : Outside) (last : ℤ) (drawn : ℕ) → ColumnSuits choices column → must_be_given column ≡ false → FoundFits choices column (ungiven table number column outside last drawn)
ungiven_fits choices column table number outside last drawn suits free = by_test column.updated refl
  where
    by_test : (b : Bool) → column.updated ≡ b → FoundFits choices column (if b then with_drawn drawn (at_moment table number outside) else fill_value table number column.kind outside last drawn column.fill)
    by_test true is = drawn_fits choices column drawn (at_moment table number outside) (moment_fits choices column table number outside (suits.updated is))
    by_test false is = fill_fits choices column table number outside last drawn column.fill suits.fill (ap (λ b. not column.optional && not b && is_absent column.fill) (sym is) ∙ free)

-- what is given fits, and is there where it has to be
abbrev GivenRight : List Choice → Column → Option Value → Type 0
GivenRight choices column None = must_be_given column ≡ false
GivenRight choices column (Some value) = fits_column choices column value ≡ true

value_in_fits : (choices : List Choice) (column : Column) (table number : ℕ) (outside : Outside) (last : ℤ) (drawn : ℕ) (given : Option Value) → ColumnSuits choices column → GivenRight choices column given → FoundFits choices column (value_in table number column outside last drawn given)
value_in_fits choices column table number outside last drawn None suits right = ungiven_fits choices column table number outside last drawn suits right
value_in_fits choices column table number outside last drawn (Some value) suits right = right

-- ---- new rows

abbrev FillRight : List Choice → List (ℕ × Value) → (ℕ × Column) → Type 0
FillRight choices given numbered = ColumnSuits choices numbered.1 × GivenRight choices numbered.1 (given_for numbered.0 given)

fill_from_fits : (choices : List Choice) (table : ℕ) (outside : Outside) (last : ℤ) (given : List (ℕ × Value)) (columns : List (ℕ × Column)) (drawn : ℕ) → AllByRecursion (FillRight choices given) columns
    → IfOk (fill_from table outside last given columns drawn) (λ new. fit_columns choices (map (λ numbered. numbered.1) columns) new.values ≡ true)
fill_from_fits choices table outside last given [] drawn right = refl
fill_from_fits choices table outside last given (numbered ∷ columns) drawn right =
    bind_ok (value_in table numbered.0 numbered.1 outside last drawn (given_for numbered.0 given)) _ (λ found. fits_column choices numbered.1 found.value ≡ true) (λ new. fit_columns choices (numbered.1 ∷ map (λ one. one.1) columns) new.values ≡ true)
    (value_in_fits choices numbered.1 table numbered.0 outside last drawn (given_for numbered.0 given) right.0.0 right.0.1)
    (λ one fits. bind_ok (fill_from table outside last given columns one.drawn) _ (λ new. fit_columns choices (map (λ other. other.1) columns) new.values ≡ true) (λ new. fit_columns choices (numbered.1 ∷ map (λ other. other.1) columns) new.values ≡ true)
    (fill_from_fits choices table outside last given columns one.drawn right.1)
    (λ others rest. and_from (fits_column choices numbered.1 one.value) (fit_columns choices (map (λ other. other.1) columns) others.values) fits rest))

not_then : (a b : Bool) → (not a || b) ≡ true → a ≡ true → b ≡ true
not_then true b either is = either
not_then false b either is = absurd (true≢false (sym is))

-- what stands for a number of a column passes the test of the column that is there
at_column : (choices : List Choice) (schema : Schema) (table number : ℕ) (column : Column) (value : Value) → column_at schema table number ≡ Some column → is_some_such (λ found. fits_column choices found value) (column_at schema table number) ≡ true → fits_column choices column value ≡ true
at_column choices schema table number column value at fits = subst (λ o. is_some_such (λ found. fits_column choices found value) o ≡ true) at fits

given_right : (schema : Schema) (table : ℕ) (given : List (ℕ × Value)) → list_all (value_fits schema table) given ≡ true → (numbered : ℕ × Column) → column_at schema table numbered.0 ≡ Some numbered.1
    → (not (must_be_given numbered.1) || is_one_of (map (λ one. one.0) given) numbered.0) ≡ true → GivenRight schema.choices numbered.1 (given_for numbered.0 given)
given_right schema table given fit numbered at enough = by_given (given_for numbered.0 given) refl (entry_passes (value_fits schema table) numbered.0 given fit)
  where
    by_must : (b : Bool) → must_be_given numbered.1 ≡ b → given_for numbered.0 given ≡ None → must_be_given numbered.1 ≡ false
    by_must true is none = absurd (entry_there numbered.0 given (not_then (must_be_given numbered.1) (is_one_of (map (λ one. one.0) given) numbered.0) enough is) none)
    by_must false is none = is

    by_given : (o : Option Value) → given_for numbered.0 given ≡ o → IfSome o (λ value. value_fits schema table (numbered.0, value) ≡ true) → GivenRight schema.choices numbered.1 o
    by_given None is passes = by_must (must_be_given numbered.1) refl is
    by_given (Some value) is passes = at_column schema.choices schema table numbered.0 numbered.1 value at passes

-- a new row fits, where what is given fits and is enough
pub filled_fits : (schema : Schema) → IsSound schema → (table : ℕ) (given : List (ℕ × Value)) (outside : Outside) (drawn : ℕ) (tables : Tables) → list_all (value_fits schema table) given ≡ true → are_enough schema table (map (λ one. one.0) given) ≡ true
    → IfOk (filled schema table given outside drawn tables) (λ new. fit_columns schema.choices (table_at schema table).columns new.values ≡ true)
filled_fits schema sound table given outside drawn tables fit enough =
    subst (λ (columns : List Column). IfOk (filled schema table given outside drawn tables) (λ new. fit_columns schema.choices columns new.values ≡ true)) (seconds_from 0 (table_at schema table).columns)
    (fill_from_fits schema.choices table outside (tables.last table) given (enumerate_from 0 (table_at schema table).columns) drawn
    (all_with _ _ (FillRight schema.choices given) (enumerate_from 0 (table_at schema table).columns) (λ numbered at must. (sound.columns table numbered.0 numbered.1 at, given_right schema table given fit numbered at must))
    (numbered (table_at schema table).columns) (all_from_test (λ numbered. not (must_be_given numbered.1) || is_one_of (map (λ one. one.0) given) numbered.0) (enumerate_from 0 (table_at schema table).columns) enough)))

-- ---- edited rows

abbrev NumberFits : List Choice → Column → Result Value Why → Type 0
NumberFits choices column result = IfOk result (λ value. fits_column choices column value ≡ true)

within_fits : (choices : List Choice) (column : Column) (number : ℤ) → NumberFits choices column (within column.kind number)
within_fits choices column number = if_ok (has_number column.kind number) (Int number) _ (λ value. fits_column choices column value ≡ true) (λ holds. holds)

on_number_fits : (choices : List Choice) (column : Column) (old : Value) (step : ℤ → Result Value Why) → fits_column choices column old ≡ true → ((number : ℤ) → NumberFits choices column (step number)) → NumberFits choices column (on_number old step)
on_number_fits choices column Null step fits each = fits
on_number_fits choices column (Text text) step fits each = fits
on_number_fits choices column (Truth truth) step fits each = fits
on_number_fits choices column (Int number) step fits each = each number
on_number_fits choices column (Moment moment) step fits each = fits
on_number_fits choices column (Blob bytes) step fits each = fits
on_number_fits choices column (Member member) step fits each = fits

quotient_fits : (choices : List Choice) (column : Column) (by number : ℤ) → NumberFits choices column (quotient column.kind by number)
quotient_fits choices column by number = by_test (int_eq by (pos 0)) why.Zero
  where
    by_test : (b : Bool) (because : Why) → NumberFits choices column (if b then Err because else within column.kind (int_div number by))
    by_test true because = tt
    by_test false because = within_fits choices column (int_div number by)

edit_value_fits : (choices : List Choice) (column : Column) (edit : Edit) (old : Value) → edit_suits choices column edit ≡ true → fits_column choices column old ≡ true → NumberFits choices column (edit_value column.kind edit old)
edit_value_fits choices column (Set value) old suits fits = suits
edit_value_fits choices column (Add by) old suits fits = on_number_fits choices column old _ fits (λ number. within_fits choices column (number +ℤ by))
edit_value_fits choices column (Subtract by) old suits fits = on_number_fits choices column old _ fits (λ number. within_fits choices column (number -ℤ by))
edit_value_fits choices column (Multiply by) old suits fits = on_number_fits choices column old _ fits (λ number. within_fits choices column (number *ℤ by))
edit_value_fits choices column (Divide by) old suits fits = on_number_fits choices column old (quotient column.kind by) fits (quotient_fits choices column by)

or_no_value_fits : (choices : List Choice) (column : Column) (table number : ℕ) (result : Result Value Why) → NumberFits choices column result → ResultFits choices column (or_no_value table number result)
or_no_value_fits choices column table number (Ok value) fits = fits
or_no_value_fits choices column table number (Err because) fits = tt

unedited_fits : (choices : List Choice) (column : Column) (table number : ℕ) (given : Bool) (outside : Outside) (old : Value) → ColumnSuits choices column → fits_column choices column old ≡ true → ResultFits choices column (unedited table number column given outside old)
unedited_fits choices column table number true outside old suits fits = by_updated column.updated
  where
    by_updated : (b : Bool) → ResultFits choices column (if b && not true then at_moment table number outside else Ok old)
    by_updated true = fits
    by_updated false = fits
unedited_fits choices column table number false outside old suits fits = by_updated column.updated refl
  where
    by_updated : (b : Bool) → column.updated ≡ b → ResultFits choices column (if b && not false then at_moment table number outside else Ok old)
    by_updated true is = moment_fits choices column table number outside (suits.updated is)
    by_updated false is = fits

edited_value_fits : (choices : List Choice) (column : Column) (table number : ℕ) (given : Bool) (outside : Outside) (old : Value) (edit : Option Edit) → ColumnSuits choices column → fits_column choices column old ≡ true → IfSome edit (λ edit. edit_suits choices column edit ≡ true)
    → ResultFits choices column (edited_value table number column given outside old edit)
edited_value_fits choices column table number given outside old None suits fits right = unedited_fits choices column table number given outside old suits fits
edited_value_fits choices column table number given outside old (Some edit) suits fits right = or_no_value_fits choices column table number (edit_value column.kind edit old) (edit_value_fits choices column edit old right fits)

abbrev EditRight : List Choice → List (ℕ × Edit) → Row → (ℕ × Column) → Type 0
EditRight choices edits row numbered = ColumnSuits choices numbered.1 × (fits_column choices numbered.1 (value_at row numbered.0) ≡ true) × IfSome (edit_for numbered.0 edits) (λ edit. edit_suits choices numbered.1 edit ≡ true)

edit_from_fits : (choices : List Choice) (table : ℕ) (outside : Outside) (edits : List (ℕ × Edit)) (given : List ℕ) (row : Row) (columns : List (ℕ × Column)) → AllByRecursion (EditRight choices edits row) columns
    → IfOk (edit_from table outside edits given row columns) (λ values. fit_columns choices (map (λ numbered. numbered.1) columns) values ≡ true)
edit_from_fits choices table outside edits given row [] right = refl
edit_from_fits choices table outside edits given row (numbered ∷ columns) right =
    bind_ok (edited_value table numbered.0 numbered.1 (is_one_of given numbered.0) outside (value_at row numbered.0) (edit_for numbered.0 edits)) _ (λ value. fits_column choices numbered.1 value ≡ true) (λ values. fit_columns choices (numbered.1 ∷ map (λ one. one.1) columns) values ≡ true)
    (edited_value_fits choices numbered.1 table numbered.0 (is_one_of given numbered.0) outside (value_at row numbered.0) (edit_for numbered.0 edits) right.0.0 right.0.1 right.0.2)
    (λ one fits. bind_ok (edit_from table outside edits given row columns) _ (λ values. fit_columns choices (map (λ other. other.1) columns) values ≡ true) (λ values. fit_columns choices (numbered.1 ∷ map (λ other. other.1) columns) values ≡ true)
    (edit_from_fits choices table outside edits given row columns right.1)
    (λ others rest. and_from (fits_column choices numbered.1 one) (fit_columns choices (map (λ other. other.1) columns) others) fits rest))

edit_right : (schema : Schema) (table number : ℕ) (column : Column) (o : Option Edit) → column_at schema table number ≡ Some column → IfSome o (λ edit. edit_fits schema table (number, edit) ≡ true) → IfSome o (λ edit. edit_suits schema.choices column edit ≡ true)
edit_right schema table number column None at passes = tt
edit_right schema table number column (Some edit) at passes = subst (λ o. is_some_such (λ (found : Column). edit_suits schema.choices found edit) o ≡ true) at passes

-- a row that fits does so after edits that fit
pub edited_fits : (schema : Schema) → IsSound schema → (table : ℕ) (edits : List (ℕ × Edit)) (given : List ℕ) (outside : Outside) (row : Row) → list_all (edit_fits schema table) edits ≡ true → row_fits schema table row ≡ true → IfOk (edited schema table edits given outside row) (λ new. row_fits schema table new ≡ true)
edited_fits schema sound table edits given outside row fit fits =
    bind_ok (edit_from table outside edits given row (enumerate_from 0 (table_at schema table).columns)) _ (λ values. fit_columns schema.choices (table_at schema table).columns values ≡ true) (λ new. row_fits schema table new ≡ true)
    (subst (λ (columns : List Column). IfOk (edit_from table outside edits given row (enumerate_from 0 (table_at schema table).columns)) (λ values. fit_columns schema.choices columns values ≡ true)) (seconds_from 0 (table_at schema table).columns)
    (edit_from_fits schema.choices table outside edits given row (enumerate_from 0 (table_at schema table).columns)
    (all_with (λ numbered. column_at schema table numbered.0 ≡ Some numbered.1) (λ numbered. column_at schema table numbered.0 ≡ Some numbered.1) (EditRight schema.choices edits row) (enumerate_from 0 (table_at schema table).columns)
    (λ numbered at also. (sound.columns table numbered.0 numbered.1 at, columns.value_in schema.choices (table_at schema table).columns row.values numbered.0 numbered.1 fits at, edit_right schema table numbered.0 numbered.1 (edit_for numbered.0 edits) at (entry_passes (edit_fits schema table) numbered.0 edits fit)))
    (numbered (table_at schema table).columns) (numbered (table_at schema table).columns))))
    (λ values fits. fits)
