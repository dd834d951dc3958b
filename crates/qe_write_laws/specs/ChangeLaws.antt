-- What holds of changes on sound schemas.
use Rattle.std.specs.Prelude.{◌≡◌, ℕ, Ok}
use Rattle.qe_base.specs.declared.value.Row.{Row}
use Rattle.qe_base.specs.Schemas.{Schema}
use Rattle.qe_schema.specs.Columns.{Values}
use Rattle.qe_schema.specs.Fits.{FitsSchema}
use Rattle.qe_row_laws.specs.Puts.{FitsTable}
use Rattle.qe_writing.specs.WriteState.{WriteState}
use Rattle.qe_writing.specs.Change.{change_step, change_of}

-- A change is its own step: it goes as deep as there is something to change.
abbrev pub ChangesAreSteps : Schema → Type 0
ChangesAreSteps schema = (table : ℕ) (id : Values) (row : Row) (state : WriteState) → change_of schema table id row state ≡ change_step schema (change_of schema) table id row state

-- A change to a row that fits its table leaves tables that fit.
abbrev pub ChangesFit : Schema → Type 0
ChangesFit schema = (table : ℕ) (id : Values) (row : Row) (state after : WriteState) → FitsSchema schema state.tables → FitsTable schema table row → change_of schema table id row state ≡ Ok after → FitsSchema schema after.tables
