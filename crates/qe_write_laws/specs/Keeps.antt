-- A fact of all tables that each single change of them keeps.
use Rattle.std.specs.Prelude.{◌≡◌, ℕ, Bool, true, List, is_some, Result, IfOk}
use Rattle.std.specs.List.{list_all}
use Rattle.qe_text.specs.Lists.{In}
use Rattle.qe_base.specs.declared.value.Row.{Row}
use Rattle.qe_base.specs.declared.value.Value.{Value}
use Rattle.qe_base.specs.declared.answer.Rule.{Rule}
use Rattle.qe_base.specs.Schemas.{Schema, link_of}
use Rattle.qe_schema.specs.Columns.{Values}
use Rattle.qe_schema.specs.Fits.{fit_columns}
use Rattle.qe_schema.specs.Pairs.{with_pair, without_pair}
use Rattle.qe_schema.specs.Put.{put_of}
use Rattle.qe_schema.specs.Tables.{Tables, table_at, is_model, with_pairs}
use Rattle.qe_writing.specs.WriteState.{WriteState}
use Rattle.qe_writing.specs.Doomed.{Place}
use Rattle.qe_writing.specs.Delete.{delete_of}
use Rattle.qe_writing.specs.Change.{change_of}
use Rattle.qe_writing.specs.Ways.{link_at, single_id}

-- the row has a value for each column of the table that is one of it
abbrev pub row_fits : Schema → ℕ → Row → Bool
row_fits schema table row = fit_columns schema.choices (table_at schema table).columns row.values

abbrev pub AllRowsFit : Schema → Tables → Type 0
AllRowsFit schema tables = (table : ℕ) → list_all (row_fits schema table) (tables.rows table) ≡ true

-- these rows are in their tables
abbrev pub AreInTables : Tables → List Place → Type 0
AreInTables tables places = (place : Place) → In place places → In place.row (tables.rows place.table)

-- where it is accepted, the fact holds of the tables after it
abbrev pub StillHolds : (Tables → Type 0) → Result WriteState Rule → Type 0
StillHolds Fact result = IfOk result (λ after. Fact after.tables)

-- The fact says that all rows fit, and is kept by the put of a row that fits, the change of a row to one that fits, the
-- deletion of rows that are there, and the linking and unlinking of rows that are there.
pub record Keeps (schema : Schema) (Fact : Tables → Type 0) : Type 0 where
  pub rows : (tables : Tables) → Fact tables → AllRowsFit schema tables
  pub put : (table : ℕ) (row : Row) (tables : Tables) → is_model schema table ≡ true → row_fits schema table row ≡ true → Fact tables → IfOk (put_of schema table row tables) Fact
  pub change : (table : ℕ) (id : Values) (row : Row) (state : WriteState) → row_fits schema table row ≡ true → Fact state.tables → StillHolds Fact (change_of schema table id row state)
  pub delete : (given : List Place) (state : WriteState) → AreInTables state.tables given → Fact state.tables → StillHolds Fact (delete_of schema given state)
  pub link : (link : ℕ) (a b : Row) (tables : Tables) → is_some (link_of link schema.links) ≡ true → In a (tables.rows (link_at schema link).a.0) → In b (tables.rows (link_at schema link).b.0) → Fact tables
      → Fact (with_pairs link (with_pair (single_id schema (link_at schema link).a.0 a, single_id schema (link_at schema link).b.0 b) (tables.pairs link)) tables)
  pub unlink : (link : ℕ) (pair : Value × Value) (tables : Tables) → Fact tables → Fact (with_pairs link (without_pair pair (tables.pairs link)) tables)
