-- The tables of a schema: rows, counters and pairs.
use Rattle.std.specs.Prelude.{ℕ, ℤ, pos, List, [], ◌∷◌, Bool, false, not, Option, Some, None, option_map, slice_get, unwrap_or, find, ◌==◌, if◌then◌else◌}
use Rattle.qe_base.specs.declared.value.Row.{Row}
use Rattle.qe_base.specs.declared.value.Value.{Value}
use Rattle.qe_base.specs.declared.schema.Column.{Column}
use Rattle.qe_base.specs.declared.schema.Field.{Field}
use Rattle.qe_base.specs.declared.schema.Key.{Key}
use Rattle.qe_base.specs.declared.schema.Table.{Table}
use Rattle.qe_base.specs.Schemas.{Schema}
use Rattle.qe_schema.specs.Columns.{Values, at_columns, are_same}

-- By the number of a table: its rows in the order of their ids, its counter, and the pairs of a link
-- table in order.
pub record Tables : Type 0 where
  pub rows : ℕ → List Row
  pub last : ℕ → ℤ
  pub pairs : ℕ → List (Value × Value)

-- nothing in any table
abbrev pub no_rows : Tables
no_rows = record { rows = λ table. []; last = λ table. pos 0; pairs = λ table. [] }

abbrev pub with_rows : ℕ → List Row → Tables → Tables
with_rows table rows tables = record tables { rows = λ t. if t == table then rows else tables.rows t }

abbrev pub with_last : ℕ → ℤ → Tables → Tables
with_last table last tables = record tables { last = λ t. if t == table then last else tables.last t }

-- what stands for a table that the schema doesn't have
abbrev pub no_table : Table
no_table = record { name = []; stored = []; link = false; columns = []; keys = []; fields = []; indexes = [] }

abbrev pub table_at : Schema → ℕ → Table
table_at schema table = unwrap_or (slice_get schema.tables table) no_table

-- the column of a number in a table
abbrev pub column_at : Schema → ℕ → ℕ → Option Column
column_at schema table number = slice_get (table_at schema table).columns number

-- the field of a number in a table
abbrev pub field_at : Schema → ℕ → ℕ → Option Field
field_at schema table number = option_map (λ field. field.1) (slice_get (table_at schema table).fields number)

abbrev pub is_model_table : Option Table → Bool
is_model_table None = false
is_model_table (Some table) = not table.link

-- the schema has a model of this number
abbrev pub is_model : Schema → ℕ → Bool
is_model schema table = is_model_table (slice_get schema.tables table)

abbrev pub is_link_table : Option Table → Bool
is_link_table None = false
is_link_table (Some table) = table.link

-- the schema has a link table of this number
abbrev pub is_link : Schema → ℕ → Bool
is_link schema table = is_link_table (slice_get schema.tables table)

abbrev pub with_pairs : ℕ → List (Value × Value) → Tables → Tables
with_pairs table pairs tables = record tables { pairs = λ t. if t == table then pairs else tables.pairs t }

abbrev pub first_columns : List Key → List ℕ
first_columns [] = []
first_columns (key ∷ keys) = key.columns

-- the columns of a table's id, which is its first key
abbrev pub id_columns : Table → List ℕ
id_columns table = first_columns table.keys

abbrev pub id_of : Table → Row → Values
id_of table row = at_columns (id_columns table) row

-- the row with this id
abbrev pub row_at : Table → Values → List Row → Option Row
row_at table id rows = find (λ row. are_same (id_of table row) id) rows
