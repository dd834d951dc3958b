-- Filling a new row: given values, and what stands where none is given.
use Rattle.std.specs.Prelude.{ℕ, ◌+◌, ◌^◌, ◌%◌, ℤ, pos, ◌+ℤ◌, List, [], ◌∷◌, if◌then◌else◌, Option, Some, None, Result, Ok, Err, find, option_map, ◌==◌}
use Rattle.std.specs.List.{enumerate_from}
use Rattle.std.specs.Int.{to_be_bytes, w128}
use Rattle.uuid.specs.Parts.{with_variant, with_version}
use Rattle.uuid.specs.Text.{hyphenated_text, lower}
use Rattle.uuid.specs.declared.Version.TheVariants.{Random}
use Rattle.uuid.specs.declared.Variant.TheVariants.{RFC4122}
use Rattle.qe_scalars.specs.Moments.{is_moment}
use Rattle.qe_base.specs.declared.value.Kind.{Kind}
use Rattle.qe_base.specs.declared.value.Value.{Value}
use Rattle.qe_base.specs.declared.value.Value.TheVariants.{Null, Text, Int, Moment}
use Rattle.qe_base.specs.declared.schema.Column.{Column}
use Rattle.qe_base.specs.declared.schema.Fill.{Fill}
use Rattle.qe_base.specs.declared.schema.Fill.TheVariants.{Absent, Literal, Counter, Now, Uuid}
use Rattle.qe_base.specs.declared.answer.Outside.{Outside}
use Rattle.qe_base.specs.declared.answer.Rule.{Rule}
use Rattle.qe_base.specs.declared.answer.Rule.TheVariants as rule
use Rattle.qe_base.specs.declared.answer.Why.{Why}
use Rattle.qe_base.specs.declared.answer.Why.TheVariants as why
use Rattle.qe_base.specs.Schemas.{Schema}
use Rattle.qe_schema.specs.Fits.{has_number}
use Rattle.qe_schema.specs.Tables.{Tables, table_at}
use Rattle.qe_writing.specs.WriteState.{◌>>=◌, table_id}

-- the identifier of this number: the seed plus the number modulo 2^128, with the version 4 and the variant
-- of RFC 9562 in their bits, as text
abbrev pub identifier : ℕ → ℕ → List ℕ
identifier seed number = hyphenated_text lower (with_version (with_variant (to_be_bytes w128 ((seed + number) % 2 ^ 128)) RFC4122) Random)

-- a value that is found, and how many identifiers are drawn after it
pub record Found : Type 0 where
  pub value : Value
  pub drawn : ℕ

abbrev pub value_found : ℕ → Value → Found
value_found drawn value = record { value = value; drawn = drawn }

abbrev pub no_value : ℕ → ℕ → Why → Rule
no_value table column because = rule.Range (table_id table) column because

-- the moment, where it is in the years 0000 to 9999
abbrev pub at_moment : ℕ → ℕ → Outside → Result Value Rule
at_moment table column outside = if is_moment outside.moment then Ok (Moment outside.moment) else Err (no_value table column why.Moment)

-- the number behind the last one, where the kind has it
abbrev pub counted : ℕ → ℕ → Kind → ℤ → Result Value Rule
counted table column kind last = if has_number kind (last +ℤ pos 1) then Ok (Int (last +ℤ pos 1)) else Err (no_value table column why.Exhausted)

abbrev pub with_drawn : ℕ → Result Value Rule → Result Found Rule
with_drawn drawn result = result >>= λ value. Ok (value_found drawn value)

-- what a fill gives in this column of a table, behind the last number and so many identifiers
abbrev pub fill_value : ℕ → ℕ → Kind → Outside → ℤ → ℕ → Fill → Result Found Rule
fill_value table column kind outside last drawn Absent = Ok (value_found drawn Null)
fill_value table column kind outside last drawn (Literal value) = Ok (value_found drawn value)
fill_value table column kind outside last drawn Counter = with_drawn drawn (counted table column kind last)
fill_value table column kind outside last drawn Now = with_drawn drawn (at_moment table column outside)
fill_value table column kind outside last drawn Uuid = Ok (value_found (drawn + 1) (Text (identifier outside.seed drawn)))

-- a column that each update sets has the moment also in a new row
abbrev pub ungiven : ℕ → ℕ → Column → Outside → ℤ → ℕ → Result Found Rule
ungiven table number column outside last drawn = if column.updated then with_drawn drawn (at_moment table number outside) else fill_value table number column.kind outside last drawn column.fill

abbrev pub value_in : ℕ → ℕ → Column → Outside → ℤ → ℕ → Option Value → Result Found Rule
value_in table number column outside last drawn None = ungiven table number column outside last drawn
value_in table number column outside last drawn (Some value) = Ok (value_found drawn value)

-- the value that is given for a column
abbrev pub given_for : ℕ → List (ℕ × Value) → Option Value
given_for column given = option_map (λ one. one.1) (find (λ one. one.0 == column) given)

-- values for columns in their order, and how many identifiers are drawn after them
pub record Filled : Type 0 where
  pub values : List Value
  pub drawn : ℕ

abbrev pub fill_from : ℕ → Outside → ℤ → List (ℕ × Value) → List (ℕ × Column) → ℕ → Result Filled Rule
fill_from table outside last given [] drawn = Ok (record { values = []; drawn = drawn })
fill_from table outside last given (numbered ∷ columns) drawn = do
  one ← value_in table numbered.0 numbered.1 outside last drawn (given_for numbered.0 given)
  others ← fill_from table outside last given columns one.drawn
  Ok (record { values = one.value ∷ others.values; drawn = others.drawn })

-- the values of a new row of a table, column by column, or the first refusal
abbrev pub filled : Schema → ℕ → List (ℕ × Value) → Outside → ℕ → Tables → Result Filled Rule
filled schema table given outside drawn tables = fill_from table outside (tables.last table) given (enumerate_from 0 (table_at schema table).columns) drawn
