-- What a put of a row keeps.
use Rattle.std.specs.Prelude.{◌≡◌, ℕ, Bool, true, Ok, filter}
use Rattle.qe_base.specs.declared.value.Row.{Row}
use Rattle.qe_base.specs.Schemas.{Schema}
use Rattle.qe_schema.specs.Fits.{fit_columns, FitsSchema}
use Rattle.qe_schema.specs.Put.{put_beside, put_of}
use Rattle.qe_schema.specs.Tables.{Tables, table_at, is_model}

-- the row has a value for each column of the table
abbrev pub FitsTable : Schema → ℕ → Row → Type 0
FitsTable schema table row = fit_columns schema.choices (table_at schema table).columns row.values ≡ true

-- A row that fits its model, put beside those rows of its table that pass a test, leaves tables that fit.
abbrev pub PutsFit : Schema → Type 0
PutsFit schema = (table : ℕ) (row : Row) (test : Row → Bool) (tables after : Tables) → FitsSchema schema tables → is_model schema table ≡ true → FitsTable schema table row
    → put_beside schema table row (filter test (tables.rows table)) tables ≡ Ok after → FitsSchema schema after

-- a new row that fits its model, put into its table, leaves tables that fit
abbrev pub NewRowsFit : Schema → Type 0
NewRowsFit schema = (table : ℕ) (row : Row) (tables after : Tables) → FitsSchema schema tables → is_model schema table ≡ true → FitsTable schema table row → put_of schema table row tables ≡ Ok after → FitsSchema schema after
