-- The statements that make a database of a schema, one on a line.
use Rattle.std.specs.Prelude.{ℕ, zero, suc, List, [], ◌++◌, Bool, true, false, map, slice_get, option_map, unwrap_or, codes, decimal}
use Rattle.std.specs.List.{flat_map, enumerate_from, join_by}
use Rattle.qe_base.specs.declared.value.Kind.{Kind}
use Rattle.qe_base.specs.declared.value.Kind.TheVariants as kind
use Rattle.qe_base.specs.declared.schema.Column.{Column}
use Rattle.qe_base.specs.declared.schema.Key.{Key}
use Rattle.qe_base.specs.declared.schema.Table.{Table}
use Rattle.qe_view.specs.Layouts.{Layout}

-- a name as statements have it; stored names have no quotes of their own
unfoldable pub quoted : List ℕ → List ℕ
quoted name = codes "\"" ++ name ++ codes "\""

-- texts with commas between them, in parentheses
unfoldable pub listed : List (List ℕ) → List ℕ
listed texts = codes "(" ++ join_by (λ text. text) (codes ", ") texts ++ codes ")"

-- how SQLite keeps values of a kind
abbrev pub type_name : Kind → List ℕ
type_name kind.Text = codes "TEXT"
type_name kind.Bool = codes "INTEGER"
type_name kind.Int = codes "INTEGER"
type_name kind.Big = codes "INTEGER"
type_name kind.Moment = codes "INTEGER"
type_name kind.Blob = codes "BLOB"
type_name (kind.Member enum) = codes "TEXT"

-- what a column says of null
abbrev pub null_text : Bool → List ℕ
null_text true = []
null_text false = codes " NOT NULL"

unfoldable pub column_text : Column → List ℕ
column_text column = quoted column.stored ++ codes " " ++ type_name column.kind ++ null_text column.optional

-- the stored name of the column of a number
unfoldable pub stored_at : List Column → ℕ → List ℕ
stored_at columns number = unwrap_or (option_map (λ column. column.stored) (slice_get columns number)) []

-- columns by their numbers
unfoldable pub names_text : List Column → List ℕ → List ℕ
names_text columns numbers = listed (map (λ number. quoted (stored_at columns number)) numbers)

-- the first key is the id
abbrev pub key_word : ℕ → List ℕ
key_word zero = codes "PRIMARY KEY "
key_word (suc number) = codes "UNIQUE "

unfoldable pub key_text : List Column → (ℕ × Key) → List ℕ
key_text columns numbered = key_word numbered.0 ++ names_text columns numbered.1.columns

-- the columns, the id, and the uniques
unfoldable pub table_parts : Table → List (List ℕ)
table_parts table = map column_text table.columns ++ map (key_text table.columns) (enumerate_from 0 table.keys)

unfoldable pub table_text : Table → List ℕ
table_text table = codes "CREATE TABLE " ++ quoted table.stored ++ codes " " ++ listed (table_parts table) ++ codes " STRICT;\n"

-- the table of the last number that was given out in each table
unfoldable pub counter_text : List ℕ
counter_text = codes "CREATE TABLE \"_qe_counter\" (\"name\" TEXT NOT NULL, \"last\" INTEGER NOT NULL, PRIMARY KEY (\"name\")) STRICT;\n"

unfoldable pub index_name : List ℕ → ℕ → List ℕ
index_name stored number = codes "_qe_index_" ++ stored ++ codes "_" ++ decimal number

unfoldable pub index_text : Table → (ℕ × List ℕ) → List ℕ
index_text table numbered = codes "CREATE INDEX " ++ quoted (index_name table.stored numbered.0) ++ codes " ON " ++ quoted table.stored ++ codes " " ++ names_text table.columns numbered.1 ++ codes ";\n"

-- the indexes of a table, by numbers from 1
unfoldable pub indexes_text : Table → List ℕ
indexes_text table = flat_map (index_text table) (enumerate_from 1 table.indexes)

-- the tables, the counters, and the indexes
abbrev pub statements_text : List Table → List ℕ
statements_text tables = flat_map table_text tables ++ counter_text ++ flat_map indexes_text tables

abbrev pub layout_text : Layout → List ℕ
layout_text layout = statements_text layout.tables
