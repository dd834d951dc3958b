-- What changes make of the tables of a schema, and what a table then holds.
use Rattle.std.specs.Prelude.{ℕ, Bool, true, false, not, List, [], ◌∷◌, ◌++◌, map, filter, take, reverse, Option, Some, None}
use Rattle.std.specs.List.{list_any}
use Rattle.std.specs.Int.{int_max}
use Rattle.std.specs.Ordering.{is_le, is_ge}
use Rattle.qe_base.specs.declared.value.Row.{Row}
use Rattle.qe_base.specs.declared.value.Value.{Value}
use Rattle.qe_base.specs.declared.query.ColumnTest.{ColumnTest}
use Rattle.qe_base.specs.declared.schema.Table.{Table}
use Rattle.qe_base.specs.Schemas.{Schema}
use Rattle.qe_schema.specs.Columns.{Values, at_columns, are_same, values_cmp}
use Rattle.qe_schema.specs.Pairs.{with_pair, without_pair, both_values}
use Rattle.qe_schema.specs.Put.{put_among}
use Rattle.qe_schema.specs.Tables.{Tables, table_at, id_of, with_rows, with_last, with_pairs}
use Rattle.qe_schema.specs.Tests.{passes}
use Rattle.qe_view.specs.declared.changes.Change.{Change}
use Rattle.qe_view.specs.declared.changes.Change.TheVariants.{Remove, Put, Unlink, Link, Counter}

-- the rows but for that of this id
abbrev pub without_id : Table → Values → List Row → List Row
without_id table id rows = filter (λ row. not (are_same (id_of table row) id)) rows

-- the tables after a change: what isn't there can't go, and what is there comes again as it is to be
abbrev pub after : Schema → Change → Tables → Tables
after schema (Remove table id) tables = with_rows table.0 (without_id (table_at schema table.0) id.values (tables.rows table.0)) tables
after schema (Put table row) tables = with_rows table.0 (put_among (table_at schema table.0) row (tables.rows table.0)) tables
after schema (Unlink table a b) tables = with_pairs table.0 (without_pair (a, b) (tables.pairs table.0)) tables
after schema (Link table a b) tables = with_pairs table.0 (with_pair (a, b) (tables.pairs table.0)) tables
after schema (Counter table last) tables = with_last table.0 (int_max last (tables.last table.0)) tables

-- one change after another
abbrev pub after_all : Schema → List Change → Tables → Tables
after_all schema [] tables = tables
after_all schema (change ∷ changes) tables = after_all schema changes (after schema change tables)

-- a pair as a row of its link table
abbrev pub pair_row : Value × Value → Row
pair_row pair = record { values = both_values pair }

-- the rows of a table; those of a link table are its pairs
abbrev pub rows_in : Tables → ℕ → List Row
rows_in tables table = tables.rows table ++ map pair_row (tables.pairs table)

-- the row has one of the keys in the columns
abbrev pub is_wanted : List ℕ → List Row → Row → Bool
is_wanted columns keys row = list_any (λ key. are_same (at_columns columns row) key.values) keys

-- the rows of a table that have one of the keys in the columns
abbrev pub rows_at : List ℕ → List Row → ℕ → Tables → List Row
rows_at columns keys table tables = filter (is_wanted columns keys) (rows_in tables table)

-- the rows of a table that pass the tests
abbrev pub rows_passing : List ColumnTest → ℕ → Tables → List Row
rows_passing tests table tables = filter (passes tests) (rows_in tables table)

-- the row has this id or a later one, or an earlier one where it goes backward; with no id each row is meant
abbrev pub is_from : Table → Option Row → Bool → Row → Bool
is_from table None backward row = true
is_from table (Some id) false row = is_ge (values_cmp (id_of table row) id.values)
is_from table (Some id) true row = is_le (values_cmp (id_of table row) id.values)

-- the last one first, where it goes backward
abbrev pub turned : Bool → List Row → List Row
turned false rows = rows
turned true rows = reverse rows

-- of rows in the order of their ids the first from an id, or from the end, at most so many
abbrev pub page_among : Table → Option Row → Bool → ℕ → List Row → List Row
page_among table from backward count rows = take count (turned backward (filter (is_from table from backward) rows))

-- a page of a model
abbrev pub page_in : Schema → Option Row → Bool → ℕ → ℕ → Tables → List Row
page_in schema from backward count table tables = page_among (table_at schema table) from backward count (tables.rows table)
