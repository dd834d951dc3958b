-- The order of rows that an operation asks for.
use Rattle.std.specs.Prelude.{ℕ, pos, List, [], ◌∷◌, Bool, true, false, length, Option, Some, None}
use Rattle.std.specs.Ordering.{nat_cmp, on, then_cmp, ordering_reverse, is_gt}
use Rattle.std.specs.declared.cmp.Ordering.{Ordering}
use Rattle.qe_base.specs.Values.{value_cmp}
use Rattle.qe_base.specs.declared.value.Row.{Row}
use Rattle.qe_base.specs.declared.value.Value.{Value}
use Rattle.qe_base.specs.declared.value.Value.TheVariants.{Null, Int}
use Rattle.qe_base.specs.declared.query.OrderBy.{OrderBy}
use Rattle.qe_base.specs.declared.query.OrderEnd.{OrderEnd}
use Rattle.qe_base.specs.declared.query.OrderEnd.TheVariants.{Column, Count}
use Rattle.qe_base.specs.Schemas.{Schema}
use Rattle.qe_schema.specs.Columns.{is_null, value_at, values_cmp}
use Rattle.qe_schema.specs.Tables.{Tables, table_at, id_of}
use Rattle.qe_reading.specs.Related.{other_table, related, one_related}

-- ---- what rows are compared by

-- the value in a column, or how many rows are related
abbrev pub end_value : Schema → Tables → ℕ → OrderEnd → Row → Value
end_value schema tables table (Column column) row = value_at row column
end_value schema tables table (Count field) row = Int (pos (length (related schema tables table field row)))

-- the value at the end of a path from a row, null where a row on it is missing
abbrev pub value_along : Schema → Tables → ℕ → List ℕ → OrderEnd → Option Row → Value
value_along schema tables table path end None = Null
value_along schema tables table [] end (Some row) = end_value schema tables table end row
value_along schema tables table (field ∷ path) end (Some row) = value_along schema tables (other_table schema table field) path end (one_related schema tables table field row)

-- what an order compares a row by
abbrev pub value_by : Schema → Tables → ℕ → OrderBy → Row → Value
value_by schema tables table order row = value_along schema tables table order.path order.end (Some row)

-- ---- comparing two rows

abbrev pub null_place : Bool → Bool → ℕ
null_place true true = 0
null_place true false = 1
null_place false true = 1
null_place false false = 0

-- 0 for what has to stand in front of the other: null where nulls come first, all else where they come last
abbrev pub place_of : Option Bool → Value → ℕ
place_of None value = 0
place_of (Some nulls_first) value = null_place nulls_first (is_null value)

abbrev pub directed : Bool → (Value → Value → Ordering) → Value → Value → Ordering
directed false compare a b = compare a b
directed true compare a b = ordering_reverse (compare a b)

-- first by the place of nulls, if one is asked for, then by value in the direction; null is the smallest value
abbrev pub order_cmp : OrderBy → Value → Value → Ordering
order_cmp order = then_cmp (on (place_of order.nulls_first) nat_cmp) (directed order.descending value_cmp)

-- by each order in turn, then by the id
abbrev pub rows_cmp : Schema → Tables → ℕ → List OrderBy → Row → Row → Ordering
rows_cmp schema tables table [] = on (id_of (table_at schema table)) values_cmp
rows_cmp schema tables table (order ∷ orders) = then_cmp (on (value_by schema tables table order) (order_cmp order)) (rows_cmp schema tables table orders)

-- ---- rows in order

abbrev pub behind : Bool → Row → List Row → Row → List Row → List Row
behind true row rest other placed = other ∷ placed
behind false row rest other placed = row ∷ other ∷ rest

-- the row before the first one that isn't before it
abbrev pub placed_by : (Row → Row → Ordering) → Row → List Row → List Row
placed_by compare row [] = row ∷ []
placed_by compare row (other ∷ rest) = behind (is_gt (compare row other)) row rest other (placed_by compare row rest)

abbrev pub sorted_by : (Row → Row → Ordering) → List Row → List Row
sorted_by compare [] = []
sorted_by compare (row ∷ rows) = placed_by compare row (sorted_by compare rows)

-- The one list of these rows in which each stands before those behind it. Rows that tie, as no two
-- rows of a table do, stay as they were.
abbrev pub ordered : Schema → Tables → ℕ → List OrderBy → List Row → List Row
ordered schema tables table orders rows = sorted_by (rows_cmp schema tables table orders) rows
