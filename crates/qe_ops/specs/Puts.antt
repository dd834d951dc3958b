-- The row of a key, and a row that is put.
use Rattle.std.specs.Prelude as Prelude
use Rattle.std.specs.Prelude.{◌≡◌, true, ℕ, ℤ, List, find, Option, Some, None, Result, Ok, Err, IfSome}
use Rattle.std.specs.List.{list_any}
use Rattle.qe_base.specs.declared.answer.Rule.{Rule}
use Rattle.qe_base.specs.declared.value.Row.{Row}
use Rattle.qe_base.specs.declared.value.Value.{Value}
use Rattle.qe_base.specs.declared.value.Value.TheVariants.{Null, Text, Bool, Int, Moment, Blob, Member}
use Rattle.qe_base.specs.Schemas.{Schema}
use Rattle.qe_schema.specs.Columns.{Values, are_same, at_columns, holds, value_at}
use Rattle.qe_schema.specs.Fits.{fit_columns}
use Rattle.qe_schema.specs.Put.{broken_key, put_among, raised}
use Rattle.qe_schema.specs.Tables.{Tables, table_at, with_rows, with_last}
use Rattle.qe_view.specs.Versions.{Viewed}
use Rattle.qe_ops.specs.Leaves.{CanGoBack, Same}
use Rattle.qe_ops.specs.declared.refusal.Refusal.{Refusal}
use Rattle.qe_ops.specs.declared.refusal.Refusal.TheVariants as refusal

-- the first row that has these values in the columns
abbrev pub row_having : List ℕ → Values → List Row → Option Row
row_having columns values rows = find (λ row. are_same (at_columns columns row) values) rows

-- the row fits the columns of the table
abbrev pub FitsTable : Schema → ℕ → Row → Type 0
FitsTable schema table row = fit_columns schema.choices (table_at schema table).columns row.values ≡ true

-- one of the rows has what this row has in the columns, none of it null
abbrev pub is_among : List ℕ → Row → List Row → Prelude.Bool
is_among columns row rows = list_any (holds columns (at_columns columns row)) rows

-- the number that a value is
abbrev pub whole_number : Value → Option ℤ
whole_number Null = None
whole_number (Text text) = None
whole_number (Bool truth) = None
whole_number (Int number) = Some number
whole_number (Moment moment) = None
whole_number (Blob bytes) = None
whole_number (Member member) = None

-- the number of a row, by the column that numbers the rows
abbrev pub number_at : Option ℕ → Row → Option ℤ
number_at None row = None
number_at (Some column) row = whole_number (value_at row column)

-- the tables with a counter that is raised for this row
abbrev pub raised_for : Schema → ℕ → Row → Tables → Tables
raised_for schema table row tables = with_last table (raised (table_at schema table) row (tables.last table)) tables

-- the tables with this row in its table, and with a counter that is raised for it
abbrev pub placed : Schema → ℕ → Row → Tables → Tables
placed schema table row tables = with_last table (raised (table_at schema table) row (tables.last table)) (with_rows table (put_among (table_at schema table) row (tables.rows table)) tables)

-- no row of the told tables holds one of the row's keys
abbrev pub IsUnheld : Schema → ℕ → Row → Option Tables → Type 0
IsUnheld schema table row told = IfSome told (λ tables. broken_key (table_at schema table).keys 0 row (tables.rows table) ≡ None)

-- what a write that may break a rule makes of the told tables
abbrev pub LeadsTo : (Tables → Result Tables Rule) → Option Tables → Option Tables → Type 0
LeadsTo write None after = after ≡ None
LeadsTo write (Some tables) after = (new : Tables) × (write tables ≡ Ok new) × (after ≡ Some new)

-- The tables were written, by changes that can be taken back; or a rule was broken, and nothing was changed, as
-- after any other refusal.
abbrev pub PutsInto : {T : Type 0} → (Tables → Result Tables Rule) → Viewed → Viewed → Result T Refusal → Type 0
PutsInto write before after (Ok done) = LeadsTo write before.now after.now × CanGoBack before after
PutsInto write before after (Err (refusal.Rule broken)) = IfSome before.now (λ tables. write tables ≡ Err broken) × Same before after
PutsInto write before after (Err (refusal.Fault fault)) = Same before after
