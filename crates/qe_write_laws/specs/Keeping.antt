-- What the replacement of one row by another keeps, a whole change keeps.
use Rattle.std.specs.Prelude.{◌≡◌, ℕ, Bool, true, Some, Ok}
use Rattle.qe_base.specs.declared.value.Row.{Row}
use Rattle.qe_base.specs.Schemas.{Schema}
use Rattle.qe_schema.specs.Columns.{Values}
use Rattle.qe_schema.specs.Fits.{FitsSchema}
use Rattle.qe_schema.specs.Tables.{Tables}
use Rattle.qe_row_laws.specs.Puts.{FitsTable}
use Rattle.qe_writing.specs.WriteState.{WriteState, row_with_id}
use Rattle.qe_writing.specs.Change.{replace, change_of}

-- a row that is there gives way to one that fits its table, and tables of which the fact held are such again
abbrev pub ReplacesKeep : Schema → (Tables → Type 0) → Type 0
ReplacesKeep schema Fact = (table : ℕ) (id : Values) (new old : Row) (state after : WriteState) → FitsSchema schema state.tables → Fact state.tables → row_with_id schema table id state ≡ Some old → FitsTable schema table new → replace schema table id new state ≡ Ok after → Fact after.tables

-- the same of a whole change
abbrev pub ChangesKeep : Schema → (Tables → Type 0) → Type 0
ChangesKeep schema Fact = (table : ℕ) (id : Values) (new : Row) (state after : WriteState) → FitsSchema schema state.tables → Fact state.tables → FitsTable schema table new → change_of schema table id new state ≡ Ok after → Fact after.tables

-- whatever test of tables replacements keep, changes keep
abbrev pub ChangesKeepAlike : Schema → Type 0
ChangesKeepAlike schema = (test : Tables → Bool) → ReplacesKeep schema (λ tables. test tables ≡ true) → ChangesKeep schema (λ tables. test tables ≡ true)
