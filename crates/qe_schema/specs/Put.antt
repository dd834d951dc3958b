-- Putting a row into its table.
use Rattle.std.specs.Prelude as Prelude
use Rattle.std.specs.Prelude.{ℕ, ◌+◌, ℤ, List, [], ◌∷◌, ◌++◌, true, false, Option, Some, None, Result, Ok, Err, filter}
use Rattle.std.specs.List.{list_any}
use Rattle.std.specs.Int.{int_max}
use Rattle.std.specs.Ordering.{is_lt, is_gt}
use Rattle.qe_base.specs.declared.value.Row.{Row}
use Rattle.qe_base.specs.declared.value.Value.{Value}
use Rattle.qe_base.specs.declared.value.Value.TheVariants.{Null, Text, Bool, Int, Moment, Blob, Member}
use Rattle.qe_base.specs.declared.schema.Key.{Key}
use Rattle.qe_base.specs.declared.schema.Table.{Table}
use Rattle.qe_base.specs.Schemas.{Schema}
use Rattle.qe_base.specs.declared.answer.Rule.{Rule}
use Rattle.qe_base.specs.declared.answer.Rule.TheVariants as rule
use Rattle.qe_schema.specs.Columns.{at_columns, holds, values_cmp, value_at}
use Rattle.qe_schema.specs.Tables.{Tables, table_at, id_columns, id_of, with_rows, with_last}
use Rattle.qe_schema.specs.Fits.{counting}

abbrev pub first_broken : Prelude.Bool → ℕ → Option ℕ → Option ℕ
first_broken true number later = Some number
first_broken false number later = later

-- the first key, from this number on, whose values one of the rows has too
abbrev pub broken_key : List Key → ℕ → Row → List Row → Option ℕ
broken_key [] number row rows = None
broken_key (key ∷ keys) number row rows = first_broken (list_any (holds key.columns (at_columns key.columns row)) rows) number (broken_key keys (number + 1) row rows)

-- the rows with this one at its place
abbrev pub put_among : Table → Row → List Row → List Row
put_among table row rows = filter (λ other. is_lt (values_cmp (id_of table other) (id_of table row))) rows ++ row ∷ filter (λ other. is_gt (values_cmp (id_of table other) (id_of table row))) rows

abbrev pub raised_to : Value → ℤ → ℤ
raised_to Null last = last
raised_to (Text text) last = last
raised_to (Bool truth) last = last
raised_to (Int number) last = int_max last number
raised_to (Moment moment) last = last
raised_to (Blob bytes) last = last
raised_to (Member member) last = last

abbrev pub raised_at : Option ℕ → Row → ℤ → ℤ
raised_at None row last = last
raised_at (Some column) row last = raised_to (value_at row column) last

-- the counter, raised to the row's id where that counts and is greater
abbrev pub raised : Table → Row → ℤ → ℤ
raised table row last = raised_at (counting table.columns (id_columns table)) row last

abbrev pub put_unless : Schema → ℕ → Row → List Row → Tables → Option ℕ → Result Tables Rule
put_unless schema table row others tables (Some key) = Err (rule.Unique (record { 0 = table }) key)
put_unless schema table row others tables None =
    Ok (with_last table (raised (table_at schema table) row (tables.last table)) (with_rows table (put_among (table_at schema table) row others) tables))

-- The row beside the others of its table, or the refusal of the first key, the id before the
-- others, that one of them holds.
abbrev pub put_beside : Schema → ℕ → Row → List Row → Tables → Result Tables Rule
put_beside schema table row others tables = put_unless schema table row others tables (broken_key (table_at schema table).keys 0 row others)

-- a new row in its table
abbrev pub put_of : Schema → ℕ → Row → Tables → Result Tables Rule
put_of schema table row tables = put_beside schema table row (tables.rows table) tables
