-- What an overlay holds of each table, and the tables seen through it.
use Rattle.std.specs.Prelude.{ℕ, ℤ, Bool, not, List, [], ◌∷◌, map, filter, Option, Some, None, if◌then◌else◌}
use Rattle.std.specs.List.{list_any}
use Rattle.std.specs.Int.{int_max}
use Rattle.qe_base.specs.declared.value.Row.{Row}
use Rattle.qe_base.specs.declared.value.Value.{Value}
use Rattle.qe_base.specs.declared.schema.Table.{Table}
use Rattle.qe_base.specs.Schemas.{Schema}
use Rattle.qe_schema.specs.Columns.{Values, value_at, are_same}
use Rattle.qe_schema.specs.Pairs.{with_pair, both_values}
use Rattle.qe_schema.specs.Put.{put_among}
use Rattle.qe_schema.specs.Tables.{Tables, table_at, is_link, id_of}

-- under an id, the row that is there now, or that none is; a pair of a link table stands here as a row
abbrev pub Entry : Type 0
Entry = Row × Option Row

-- entries in the order of their ids, and a counter that is greater than the one below
pub record Layer : Type 0 where
  pub entries : List Entry
  pub last : Option ℤ

-- the layers of all tables, by their numbers
abbrev pub Layers : Type 0
Layers = ℕ → Layer

abbrev pub no_layer : Layer
no_layer = record { entries = []; last = None }

-- nothing is entered of any table
abbrev pub no_layers : Layers
no_layers = λ table. no_layer

abbrev pub rows_and : List Row → Option Row → List Row
rows_and rows None = rows
rows_and rows (Some row) = row ∷ rows

-- the rows that are there now
abbrev pub present : List Entry → List Row
present [] = []
present (entry ∷ entries) = rows_and (present entries) entry.1

abbrev pub is_entered : List Entry → Values → Bool
is_entered entries id = list_any (λ entry. are_same entry.0.values id) entries

-- these rows at their places among others
abbrev pub put_all : Table → List Row → List Row → List Row
put_all table [] rows = rows
put_all table (row ∷ others) rows = put_among table row (put_all table others rows)

-- the rows below but for those of entered ids, and the rows that are there now
abbrev pub over_rows : Table → List Entry → List Row → List Row
over_rows table entries rows = put_all table (present entries) (filter (λ row. not (is_entered entries (id_of table row))) rows)

abbrev pub pair_of : Row → Value × Value
pair_of row = (value_at row 0, value_at row 1)

abbrev pub link_all : List (Value × Value) → List (Value × Value) → List (Value × Value)
link_all [] pairs = pairs
link_all (pair ∷ others) pairs = with_pair pair (link_all others pairs)

-- the pairs below but for those that are entered, and the pairs that are there now
abbrev pub over_pairs : List Entry → List (Value × Value) → List (Value × Value)
over_pairs entries pairs = link_all (map pair_of (present entries)) (filter (λ pair. not (is_entered entries (both_values pair))) pairs)

abbrev pub over_last : Option ℤ → ℤ → ℤ
over_last None last = last
over_last (Some raised) last = int_max raised last

-- the tables below, seen through the layers
abbrev pub seen : Schema → Layers → Tables → Tables
seen schema layers tables = record {
  rows = λ table. if is_link schema table then tables.rows table else over_rows (table_at schema table) (layers table).entries (tables.rows table);
  last = λ table. over_last (layers table).last (tables.last table);
  pairs = λ table. if is_link schema table then over_pairs (layers table).entries (tables.pairs table) else tables.pairs table;
}
