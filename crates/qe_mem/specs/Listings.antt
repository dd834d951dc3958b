-- Rows in the order of columns.
use Rattle.std.specs.Prelude.{◌≡◌, ℕ, List, [], Bool, true, false, Option, Some, None, map, filter, find, take, bytes_eq}
use Rattle.std.specs.List.{AllByRecursion}
use Rattle.std.specs.List.Sorted.{IsStrictlySortedBy}
use Rattle.std.specs.Ordering.{is_eq, is_le, is_ge}
use Rattle.qe_base.specs.declared.value.Row.{Row}
use Rattle.qe_schema.specs.Columns.{Values, values_cmp}
use Rattle.qe_view.specs.After.{turned}
use Rattle.qe_mem.specs.Keys.{key_part, keyed_cmp, under, row_order, stands_at}
use Rattle.qe_mem.specs.declared.keyed.Columns.{Columns}
use Rattle.qe_mem.specs.declared.keyed.Columns.TheVariants.{Whole, Listed}
use Rattle.qe_mem.specs.declared.keyed.Keyed.{Keyed}

-- the columns of an order, and the rows in it
pub record Listing : Type 0 where
  pub columns : Columns
  pub rows : List Row

abbrev pub rows_in : List Keyed → List Row
rows_in keys = map (λ k. k.row) keys

-- each row is under the columns
abbrev pub AreKeyed : Columns → List Keyed → Type 0
AreKeyed columns keys = AllByRecursion (λ k. k.columns ≡ columns) keys

-- no rows
abbrev pub no_listing : Columns → Listing
no_listing columns = record { columns = columns; rows = [] }

-- the row that stands at a place
abbrev pub found_at : Listing → Keyed → Option Row
found_at listing place = find (stands_at listing.columns place) listing.rows

-- the rows are in the order
abbrev pub IsInOrder : Listing → Type 0
IsInOrder listing = IsStrictlySortedBy (row_order listing.columns) listing.rows

-- the row has the values in the columns of the key
abbrev pub has_key : Columns → Values → Row → Bool
has_key columns key row = is_eq (values_cmp key (key_part columns row))

-- the order goes by these columns
abbrev pub goes_by : List ℕ → Columns → Bool
goes_by columns Whole = false
goes_by columns (Listed key id) = bytes_eq columns key

-- the row stands at a place or after it, or before it where it goes backward; with no place each row is meant
abbrev pub is_beyond : Columns → Option Row → Bool → Row → Bool
is_beyond columns None backward row = true
is_beyond columns (Some key) false row = is_le (keyed_cmp (under Whole key) (under columns row))
is_beyond columns (Some key) true row = is_ge (keyed_cmp (under Whole key) (under columns row))

-- of rows in the order those beyond a place, at most so many, the last one first where it goes backward
abbrev pub page_of : Columns → Option Row → Bool → ℕ → List Row → List Row
page_of columns from backward count rows = take count (turned backward (filter (is_beyond columns from backward) rows))
