-- Editing the columns of a row.
use Rattle.std.specs.Prelude as Prelude
use Rattle.std.specs.Prelude.{ℕ, ℤ, pos, ◌+ℤ◌, ◌-ℤ◌, ◌*ℤ◌, int_div, ◌&&◌, not, List, [], ◌∷◌, if◌then◌else◌, Option, Some, None, Result, Ok, Err, find, option_map, ◌==◌}
use Rattle.std.specs.List.{enumerate_from}
use Rattle.std.specs.Ordering.{int_eq}
use Rattle.qe_base.specs.declared.value.Kind.{Kind}
use Rattle.qe_base.specs.declared.value.Row.{Row}
use Rattle.qe_base.specs.declared.value.Value.{Value}
use Rattle.qe_base.specs.declared.value.Value.TheVariants.{Null, Text, Bool, Int, Moment, Blob, Member}
use Rattle.qe_base.specs.declared.schema.Column.{Column}
use Rattle.qe_base.specs.declared.answer.Outside.{Outside}
use Rattle.qe_base.specs.declared.answer.Rule.{Rule}
use Rattle.qe_base.specs.declared.answer.Why.{Why}
use Rattle.qe_base.specs.declared.answer.Why.TheVariants as why
use Rattle.qe_base.specs.declared.write.Edit.{Edit}
use Rattle.qe_base.specs.declared.write.Edit.TheVariants.{Set, Add, Subtract, Multiply, Divide}
use Rattle.qe_base.specs.Schemas.{Schema}
use Rattle.qe_schema.specs.Columns.{value_at}
use Rattle.qe_schema.specs.Fits.{has_number}
use Rattle.qe_schema.specs.Tables.{table_at}
use Rattle.qe_writing.specs.WriteState.{◌>>=◌}
use Rattle.qe_writing.specs.Numbers.{is_one_of}
use Rattle.qe_writing.specs.Fill.{no_value, at_moment}

-- a number that the kind has
abbrev pub within : Kind → ℤ → Result Value Why
within kind number = if has_number kind number then Ok (Int number) else Err why.Range

-- what becomes of a number; null stays null
abbrev pub on_number : Value → (ℤ → Result Value Why) → Result Value Why
on_number Null step = Ok Null
on_number (Text text) step = Ok (Text text)
on_number (Bool truth) step = Ok (Bool truth)
on_number (Int number) step = step number
on_number (Moment moment) step = Ok (Moment moment)
on_number (Blob bytes) step = Ok (Blob bytes)
on_number (Member member) step = Ok (Member member)

-- towards zero
abbrev pub quotient : Kind → ℤ → ℤ → Result Value Why
quotient kind by number = if int_eq by (pos 0) then Err why.Zero else within kind (int_div number by)

abbrev pub edit_value : Kind → Edit → Value → Result Value Why
edit_value kind (Set value) old = Ok value
edit_value kind (Add by) old = on_number old (λ number. within kind (number +ℤ by))
edit_value kind (Subtract by) old = on_number old (λ number. within kind (number -ℤ by))
edit_value kind (Multiply by) old = on_number old (λ number. within kind (number *ℤ by))
edit_value kind (Divide by) old = on_number old (quotient kind by)

abbrev pub or_no_value : ℕ → ℕ → Result Value Why → Result Value Rule
or_no_value table column (Ok value) = Ok value
or_no_value table column (Err because) = Err (no_value table column because)

-- a column without an edit stays, but for one that each update sets and that isn't given
abbrev pub unedited : ℕ → ℕ → Column → Prelude.Bool → Outside → Value → Result Value Rule
unedited table number column given outside old = if column.updated && not given then at_moment table number outside else Ok old

abbrev pub edited_value : ℕ → ℕ → Column → Prelude.Bool → Outside → Value → Option Edit → Result Value Rule
edited_value table number column given outside old None = unedited table number column given outside old
edited_value table number column given outside old (Some edit) = or_no_value table number (edit_value column.kind edit old)

abbrev pub edit_for : ℕ → List (ℕ × Edit) → Option Edit
edit_for column edits = option_map (λ one. one.1) (find (λ one. one.0 == column) edits)

abbrev pub edit_from : ℕ → Outside → List (ℕ × Edit) → List ℕ → Row → List (ℕ × Column) → Result (List Value) Rule
edit_from table outside edits given row [] = Ok []
edit_from table outside edits given row (numbered ∷ columns) = do
  one ← edited_value table numbered.0 numbered.1 (is_one_of given numbered.0) outside (value_at row numbered.0) (edit_for numbered.0 edits)
  others ← edit_from table outside edits given row columns
  Ok (one ∷ others)

-- The row after its edits, column by column, or the first refusal. Of the columns without an edit these are given,
-- and stay.
abbrev pub edited : Schema → ℕ → List (ℕ × Edit) → List ℕ → Outside → Row → Result Row Rule
edited schema table edits given outside row = edit_from table outside edits given row (enumerate_from 0 (table_at schema table).columns) >>= λ values. Ok (record { values = values })
