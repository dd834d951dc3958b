-- The tables of a layout as they are kept in memory.
use Rattle.std.specs.Prelude.{◌≡◌, ℕ, pos, List, [], ◌∷◌, ◌++◌, map, find, get_or, Bool, true, false, ◌||◌, cond, bytes_eq, is_some, Option}
use Rattle.std.specs.List.{AllByRecursion, enumerate_from}
use Rattle.qe_base.specs.Schemas.{Schema}
use Rattle.qe_base.specs.declared.value.Row.{Row}
use Rattle.qe_base.specs.declared.value.Value.{Value}
use Rattle.qe_base.specs.declared.schema.Table.{Table}
use Rattle.qe_schema.specs.Columns.{value_at}
use Rattle.qe_schema.specs.Tables.{Tables, id_columns, is_model}
use Rattle.qe_view.specs.After.{pair_row, after_all, page_in}
use Rattle.qe_view.specs.Layouts.{Layout, foreign_columns}
use Rattle.qe_view.specs.Right.{are_right}
use Rattle.qe_view.specs.declared.changes.Change.{Change}
use Rattle.qe_mem.specs.Keys.{under, stands_at}
use Rattle.qe_mem.specs.Listings.{Listing, no_listing, found_at, goes_by, IsInOrder}
use Rattle.qe_mem.specs.declared.keyed.Columns.{Columns}
use Rattle.qe_mem.specs.declared.keyed.Columns.TheVariants.{Whole, Listed}
use Rattle.qe_mem.specs.declared.table.MemTable.{MemTable}

-- ---- by which columns rows are kept

-- both values tell the pairs of a link table apart
abbrev pub ids_by : Bool → List ℕ → List ℕ
ids_by true ids = 0 ∷ 1 ∷ []
ids_by false ids = ids

abbrev pub ids_of : Table → List ℕ
ids_of table = ids_by table.link (id_columns table)

abbrev pub sides_by : Bool → List (List ℕ)
sides_by true = (0 ∷ []) ∷ (1 ∷ []) ∷ []
sides_by false = []

-- by which columns rows are looked up: by keys, foreign keys and indexes, and pairs by each of their sides
abbrev pub looked_up : Layout → ℕ → Table → List (List ℕ)
looked_up layout number table = map (λ key. key.columns) table.keys ++ foreign_columns number layout.foreign_keys ++ table.indexes ++ sides_by table.link

-- rows go by these columns already
abbrev pub is_kept_by : List ℕ → List ℕ → List Listing → Bool
is_kept_by ids key orders = bytes_eq key ids || is_some (find (λ listing. goes_by key listing.columns) orders)

-- one order more, unless rows go by these columns already
abbrev pub with_order : List ℕ → List ℕ → List Listing → List Listing
with_order ids key orders = cond (is_kept_by ids key orders) orders (orders ++ no_listing (Listed key ids) ∷ [])

abbrev pub with_orders : List ℕ → List (List ℕ) → List Listing → List Listing
with_orders ids [] orders = orders
with_orders ids (key ∷ keys) orders = with_orders ids keys (with_order ids key orders)

-- nothing in it yet
abbrev pub empty_table : Layout → ℕ → Table → MemTable
empty_table layout number table = record {
  link = table.link;
  rows = no_listing (Listed (ids_of table) []);
  orders = with_orders (ids_of table) (looked_up layout number table) [];
  last = pos 0;
}

abbrev pub empty_tables : Layout → List MemTable
empty_tables layout = map (λ numbered. empty_table layout numbered.0 numbered.1) (enumerate_from 0 layout.tables)

-- what is kept of the table of a number, and nothing where there is none
abbrev pub nothing_kept : MemTable
nothing_kept = record { link = false; rows = no_listing (Listed [] []); orders = []; last = pos 0 }

abbrev pub kept_at : List MemTable → ℕ → MemTable
kept_at kept table = get_or kept table nothing_kept

-- whether it keeps pairs, and by which columns its rows are told apart
abbrev pub columns_of : MemTable → Bool × Columns
columns_of table = (table.link, table.rows.columns)

abbrev pub columns_for : Table → Bool × Columns
columns_for table = (table.link, Listed (ids_of table) [])

-- these tables are kept
abbrev pub IsKeptFor : List Table → List MemTable → Type 0
IsKeptFor tables kept = map columns_of kept ≡ map columns_for tables

-- the columns of the further orders
abbrev pub orders_of : MemTable → List Columns
orders_of table = map (λ listing. listing.columns) table.orders

-- rows are kept by all that they are looked up by
abbrev pub HasOrdersFor : Layout → List MemTable → Type 0
HasOrdersFor layout kept = map orders_of kept ≡ map orders_of (empty_tables layout)

-- ---- the tables that are told

-- the two values of a row of a link table
abbrev pub pair_of : Row → Value × Value
pair_of row = (value_at row 0, value_at row 1)

abbrev pub model_rows : Bool → List Row → List Row
model_rows true rows = []
model_rows false rows = rows

abbrev pub link_pairs : Bool → List Row → List (Value × Value)
link_pairs true rows = map pair_of rows
link_pairs false rows = []

abbrev pub tables_of : List MemTable → Tables
tables_of kept = record {
  rows = λ table. model_rows (kept_at kept table).link (kept_at kept table).rows.rows;
  last = λ table. (kept_at kept table).last;
  pairs = λ table. link_pairs (kept_at kept table).link (kept_at kept table).rows.rows;
}

-- the row is one of two values
abbrev pub IsTwoValues : Row → Type 0
IsTwoValues row = pair_row (pair_of row) ≡ row

abbrev pub ArePairsIf : Bool → List Row → Type 0
ArePairsIf true rows = AllByRecursion IsTwoValues rows
ArePairsIf false rows = Unit {0}

-- the rows of link tables are pairs
abbrev pub ArePairs : List MemTable → Type 0
ArePairs kept = AllByRecursion (λ table. ArePairsIf table.link table.rows.rows) kept

-- ---- the orders have the rows of their tables, and nothing else

-- rows are told apart by ids alone, and in a further order by its key and then by their ids
abbrev pub ArePaired : Columns → Columns → Type 0
ArePaired Whole order = ⊥
ArePaired (Listed ids none) Whole = ⊥
ArePaired (Listed ids none) (Listed key again) = (none ≡ []) × (again ≡ ids)

-- The listing is that of the table's rows in its order: at the place of each row the same stands in both.
pub record IsOrderOf (rows listing : Listing) : Type 0 where
  pub columns : ArePaired rows.columns listing.columns
  pub in_order : IsInOrder listing
  pub same : (row : Row) → found_at listing (under listing.columns row) ≡ find (stands_at listing.columns (under listing.columns row)) rows.rows

-- each order of the table is one of its rows
pub record IsExact (table : MemTable) : Type 0 where
  pub in_order : IsInOrder table.rows
  pub orders : AllByRecursion (IsOrderOf table.rows) table.orders

-- What is kept is the rows of the tables, and in each order of a table its rows.
abbrev pub AreExact : List MemTable → Type 0
AreExact kept = AllByRecursion IsExact kept

-- ---- what changes make of them

-- what holds of tables that are kept for a schema, after right changes
pub record MakesAll (schema : Schema) (changes : List Change) (before after : List MemTable) : Type 0 where
  pub told : tables_of after ≡ after_all schema changes (tables_of before)
  pub pairs : ArePairs after

abbrev pub MakesRight : List Change → List MemTable → List MemTable → Type 0
MakesRight changes before after =
    (schema : Schema) → IsKeptFor schema.tables before → ArePairs before → are_right schema changes ≡ true → MakesAll schema changes before after

-- ---- pages

-- the rows are a page of a model of a schema that the tables are kept for
abbrev pub IsPageOf : List MemTable → ℕ → Option Row → Bool → ℕ → List Row → Type 0
IsPageOf kept table from backward count rows =
    (schema : Schema) → IsKeptFor schema.tables kept → is_model schema table ≡ true → rows ≡ page_in schema from backward count table (tables_of kept)
