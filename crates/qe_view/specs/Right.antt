-- What may be asked of a connector: columns, keys and changes of a schema.
use Rattle.std.specs.Prelude.{◌≡◌, ℕ, ℤ, pos, Bool, true, false, ◌&&◌, not, nat_lt, nat_le, int_lt, length, List, [], ◌∷◌, Option, Some, None, slice_get}
use Rattle.std.specs.List.{list_all}
use Rattle.qe_base.specs.declared.value.Row.{Row}
use Rattle.qe_base.specs.declared.value.Value.{Value}
use Rattle.qe_base.specs.declared.query.ColumnTest.{ColumnTest}
use Rattle.qe_base.specs.declared.schema.Choice.{Choice}
use Rattle.qe_base.specs.declared.schema.Column.{Column}
use Rattle.qe_base.specs.Schemas.{Schema}
use Rattle.qe_schema.specs.Columns.{Values, is_null}
use Rattle.qe_schema.specs.Fits.{FitsSchema, fits_column, fit_columns}
use Rattle.qe_schema.specs.Pairs.{both_values}
use Rattle.qe_schema.specs.Tables.{Tables, table_at, column_at, is_model, is_link, id_columns, id_of, row_at}
use Rattle.qe_schema.specs.Tests.{test_fits}
use Rattle.qe_view.specs.declared.changes.Change.{Change}
use Rattle.qe_view.specs.declared.changes.Change.TheVariants.{Remove, Put, Unlink, Link, Counter}
use Rattle.qe_view.specs.After.{after, after_all}

-- a value of the column that is not null
abbrev pub is_value_of : List Choice → Option Column → Value → Bool
is_value_of choices None value = false
is_value_of choices (Some column) value = not (is_null value) && fits_column choices column value

-- one such value for each of these columns
abbrev pub are_values_of : List Choice → List Column → List ℕ → Values → Bool
are_values_of choices columns [] [] = true
are_values_of choices columns [] (value ∷ values) = false
are_values_of choices columns (number ∷ numbers) [] = false
are_values_of choices columns (number ∷ numbers) (value ∷ values) = is_value_of choices (slice_get columns number) value && are_values_of choices columns numbers values

-- the schema has a table of this number
abbrev pub has_table : Schema → ℕ → Bool
has_table schema table = nat_lt table (length schema.tables)

-- some columns of a table, and keys of values for them
abbrev pub can_load : Schema → ℕ → List ℕ → List Row → Bool
can_load schema table columns keys =
    has_table schema table && nat_lt 0 (length columns) && list_all (λ column. nat_lt column (length (table_at schema table).columns)) columns
    && list_all (λ key. are_values_of schema.choices (table_at schema table).columns columns key.values) keys

-- a row of a model, with one value for each column
abbrev pub is_row_of : Schema → ℕ → Row → Bool
is_row_of schema table row = is_model schema table && fit_columns schema.choices (table_at schema table).columns row.values

-- an id of a model
abbrev pub is_id_of : Schema → ℕ → Row → Bool
is_id_of schema table id = is_model schema table && are_values_of schema.choices (table_at schema table).columns (id_columns (table_at schema table)) id.values

-- a test that fits a column which is there
abbrev pub is_fit_test : List Choice → ColumnTest → Option Column → Bool
is_fit_test choices asked None = false
is_fit_test choices asked (Some column) = test_fits choices asked.test column

-- tests of columns of a table
abbrev pub can_scan : Schema → ℕ → List ColumnTest → Bool
can_scan schema table tests = has_table schema table && list_all (λ asked. is_fit_test schema.choices asked (column_at schema table asked.column)) tests

abbrev pub is_id_or_none : Schema → ℕ → Option Row → Bool
is_id_or_none schema table None = true
is_id_or_none schema table (Some id) = is_id_of schema table id

-- a model, and an id of it where one is given
abbrev pub can_page : Schema → ℕ → Option Row → Bool
can_page schema table from = is_model schema table && is_id_or_none schema table from

-- a pair of a link table
abbrev pub is_pair_of : Schema → ℕ → Value → Value → Bool
is_pair_of schema table a b = is_link schema table && are_values_of schema.choices (table_at schema table).columns (0 ∷ 1 ∷ []) (both_values (a, b))

-- a number that the counter of a model may have
abbrev pub is_last_of : Schema → ℕ → ℤ → Bool
is_last_of schema table last = is_model schema table && not (int_lt last (pos 0))

-- the change is one of the schema, told tables or not
abbrev pub is_right : Schema → Change → Bool
is_right schema (Remove table id) = is_id_of schema table.0 id
is_right schema (Put table row) = is_row_of schema table.0 row
is_right schema (Unlink table a b) = is_pair_of schema table.0 a b
is_right schema (Link table a b) = is_pair_of schema table.0 a b
is_right schema (Counter table last) = is_last_of schema table.0 last

-- the order in which a list of changes has them
abbrev pub stage : Change → ℕ
stage (Remove table id) = 0
stage (Put table row) = 1
stage (Unlink table a b) = 2
stage (Link table a b) = 3
stage (Counter table last) = 4

-- removes, then puts, then unlinks, then links, then counters
abbrev pub in_stages : ℕ → List Change → Bool
in_stages from [] = true
in_stages from (change ∷ changes) = nat_le from (stage change) && in_stages (stage change) changes

-- the changes are such as may be applied, told tables or not
abbrev pub are_right : Schema → List Change → Bool
are_right schema changes = list_all (is_right schema) changes && in_stages 0 changes

-- no row has the id of a row that is put
abbrev pub IsFree : Schema → Change → Tables → Type 0
IsFree schema (Remove table id) tables = Unit {0}
IsFree schema (Put table row) tables = row_at (table_at schema table.0) (id_of (table_at schema table.0) row) (tables.rows table.0) ≡ None
IsFree schema (Unlink table a b) tables = Unit {0}
IsFree schema (Link table a b) tables = Unit {0}
IsFree schema (Counter table last) tables = Unit {0}

abbrev pub AreFree : Schema → List Change → Tables → Type 0
AreFree schema [] tables = Unit {0}
AreFree schema (change ∷ changes) tables = IsFree schema change tables × AreFree schema changes (after schema change tables)

-- the changes lead from these tables to others that fit, each put to an id that is free by then
pub record ChangesLead (schema : Schema) (changes : List Change) (tables : Tables) : Type 0 where
  pub free : AreFree schema changes tables
  pub fits : FitsSchema schema (after_all schema changes tables)
