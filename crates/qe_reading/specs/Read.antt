-- What the reading operations answer.
use Rattle.std.specs.Prelude.{ℕ, ℤ, pos, List, Bool, true, false, ◌&&◌, length, find, Option, Some, None, Result, Ok, Err}
use Rattle.std.specs.Int.{int_signum}
use Rattle.qe_base.specs.declared.value.Row.{Row}
use Rattle.qe_base.specs.declared.query.Look.{Look}
use Rattle.qe_base.specs.declared.query.Pick.{Pick}
use Rattle.qe_base.specs.declared.query.Unique.{Unique}
use Rattle.qe_base.specs.declared.write.Op.{Op}
use Rattle.qe_base.specs.declared.write.Op.TheVariants as op
use Rattle.qe_base.specs.declared.answer.Answer.{Answer}
use Rattle.qe_base.specs.declared.answer.Answer as answer
use Rattle.qe_base.specs.declared.answer.Rule.{Rule}
use Rattle.qe_base.specs.declared.answer.Rule.TheVariants as rule
use Rattle.qe_base.specs.Schemas.{Schema}
use Rattle.qe_schema.specs.Tables.{Tables, table_at}
use Rattle.qe_reading.specs.Related.{first_row}
use Rattle.qe_reading.specs.Truth.{truth_of}
use Rattle.qe_schema.specs.Tests.{is_yes}
use Rattle.qe_reading.specs.Page.{is_at}
use Rattle.qe_reading.specs.Look.{looked_up}
use Rattle.qe_reading.specs.Shape.{all_shown, shape_of}

-- the row of the key's values, if the filter is Yes of it
abbrev pub found_at : Schema → Tables → ℕ → Unique → Option Row
found_at schema tables table at = find (λ row. is_at (table_at schema table) at row && is_yes (truth_of schema tables at.extra table row)) (tables.rows table)

-- what is answered where there is no row
abbrev pub missing : ℕ → Bool → Result Answer Rule
missing table false = Ok answer.Null
missing table true = Err (rule.Absent (record { 0 = table }))

abbrev pub row_or_missing : ℕ → Bool → (Row → Result Answer Rule) → Option Row → Result Answer Rule
row_or_missing table strict shows None = missing table strict
row_or_missing table strict shows (Some row) = shows row

-- one row from the end where a negative number is asked for, none where none are, else one from the front
abbrev pub take_one : Option ℤ → ℤ
take_one None = pos 1
take_one (Some asked) = int_signum asked

abbrev pub with_one : Look → Look
with_one look = record look { page = record look.page { take = Some (take_one look.page.take) } }

-- the rows of a table that are looked up
abbrev pub rows_for : Schema → Tables → ℕ → Look → List Row
rows_for schema tables table look = looked_up schema tables table look (tables.rows table)

abbrev pub find_unique : Schema → Tables → ℕ → Unique → Bool → Pick → Result Answer Rule
find_unique schema tables table at strict pick = row_or_missing table strict (shape_of schema tables pick table) (found_at schema tables table at)

abbrev pub find_first : Schema → Tables → ℕ → Look → Bool → Pick → Result Answer Rule
find_first schema tables table look strict pick = row_or_missing table strict (shape_of schema tables pick table) (first_row (rows_for schema tables table (with_one look)))

abbrev pub find_many : Schema → Tables → ℕ → Look → Pick → Result Answer Rule
find_many schema tables table look pick = all_shown (shape_of schema tables pick table) (rows_for schema tables table look)

abbrev pub count : Schema → Tables → ℕ → Look → Result Answer Rule
count schema tables table look = Ok (answer.Number (length (rows_for schema tables table look)))

-- what an operation answers that only reads; the others have no such answer
abbrev pub read_of : Schema → Tables → Op → Option (Result Answer Rule)
read_of schema tables (op.FindUnique table at strict pick) = Some (find_unique schema tables table.0 at strict pick)
read_of schema tables (op.FindFirst table look strict pick) = Some (find_first schema tables table.0 look strict pick)
read_of schema tables (op.FindMany table look pick) = Some (find_many schema tables table.0 look pick)
read_of schema tables (op.Count table look) = Some (count schema tables table.0 look)
read_of schema tables (op.Create table tree pick) = None
read_of schema tables (op.CreateMany table trees pick) = None
read_of schema tables (op.Update table at tree pick) = None
read_of schema tables (op.UpdateMany table asked tree) = None
read_of schema tables (op.Upsert table at create update pick) = None
read_of schema tables (op.Delete table at pick) = None
read_of schema tables (op.DeleteMany table asked) = None
