-- What changes of rows come to in one order.
use Rattle.std.specs.Prelude.{◌≡◌, List, [], ◌∷◌, Bool, true, false, Option, Some, None, is_some}
use Rattle.std.specs.List.{AllByRecursion}
use Rattle.std.specs.Ordering.{is_eq}
use Rattle.std.specs.BTreeSet.{insert_key, replace_key}
use Rattle.std.specs.Set.{remove_key}
use Rattle.qe_base.specs.declared.value.Row.{Row}
use Rattle.qe_mem.specs.Keys.{row_order, stands_at, under}
use Rattle.qe_mem.specs.Listings.{Listing, found_at}
use Rattle.qe_mem.specs.declared.keyed.Columns.{Columns}
use Rattle.qe_mem.specs.declared.keyed.Keyed.{Keyed}
use Rattle.qe_mem.specs.declared.turns.Swap.{Swap}
use Rattle.qe_mem.specs.declared.turns.Turn.{Turn}
use Rattle.qe_mem.specs.declared.turns.Turn.TheVariants.{Stay, Come, Go, Take, Shift}

-- ---- which turn a change is

abbrev pub take_or_shift : Bool → Keyed → Keyed → Turn
take_or_shift true from to = Take to
take_or_shift false from to = Shift from to

-- a row after another of its id: at the same place or at another one
abbrev pub turn_over : Columns → Row → Row → Turn
turn_over columns old new = take_or_shift (is_eq (row_order columns new old)) (under columns old) (under columns new)

abbrev pub turn_between : Columns → Option Row → Option Row → Turn
turn_between columns None None = Stay
turn_between columns None (Some new) = Come (under columns new)
turn_between columns (Some old) None = Go (under columns old)
turn_between columns (Some old) (Some new) = turn_over columns old new

abbrev pub turn_of : Columns → Swap → Turn
turn_of columns swap = turn_between columns swap.old swap.new

-- ---- what a turn does: rows that come to places of their own are entered, and then the others settled

-- the order with a row, unless one stands at its place
abbrev pub with_row : Row → Listing → Listing
with_row row listing = record listing { rows = insert_key (row_order listing.columns) listing.rows row }

-- the order without the row at a place
abbrev pub without_row : Keyed → Listing → Listing
without_row place listing = record listing { rows = remove_key (stands_at listing.columns place) listing.rows }

-- the order with a row for the one at its place
abbrev pub with_row_for : Row → Listing → Listing
with_row_for row listing = record listing { rows = replace_key (row_order listing.columns) listing.rows row }

abbrev pub entered : Turn → Listing → Listing
entered Stay listing = listing
entered (Come to) listing = with_row to.row listing
entered (Go from) listing = listing
entered (Take to) listing = listing
entered (Shift from to) listing = with_row to.row listing

-- without what was entered
abbrev pub left : Turn → Listing → Listing
left Stay listing = listing
left (Come to) listing = without_row to listing
left (Go from) listing = listing
left (Take to) listing = listing
left (Shift from to) listing = without_row to listing

-- without what goes, and with what takes its place
abbrev pub settled : Turn → Listing → Listing
settled Stay listing = listing
settled (Come to) listing = listing
settled (Go from) listing = without_row from listing
settled (Take to) listing = with_row_for to.row listing
settled (Shift from to) listing = without_row from listing

abbrev pub entered_all : List Turn → Listing → Listing
entered_all [] listing = listing
entered_all (turn ∷ turns) listing = entered_all turns (entered turn listing)

-- the last one first
abbrev pub left_all : List Turn → Listing → Listing
left_all [] listing = listing
left_all (turn ∷ turns) listing = left turn (left_all turns listing)

-- the last one first
abbrev pub settled_all : List Turn → Listing → Listing
settled_all [] listing = listing
settled_all (turn ∷ turns) listing = settled turn (settled_all turns listing)

-- ---- what turns need

-- what comes is under the columns
abbrev pub IsUnder : Columns → Turn → Type 0
IsUnder columns Stay = Unit {0}
IsUnder columns (Come to) = to.columns ≡ columns
IsUnder columns (Go from) = Unit {0}
IsUnder columns (Take to) = to.columns ≡ columns
IsUnder columns (Shift from to) = to.columns ≡ columns

-- no row stands yet where one is entered
abbrev pub IsFree : Turn → Listing → Type 0
IsFree Stay listing = Unit {0}
IsFree (Come to) listing = found_at listing to ≡ None
IsFree (Go from) listing = Unit {0}
IsFree (Take to) listing = Unit {0}
IsFree (Shift from to) listing = found_at listing to ≡ None

-- a row stands where one is to take its place
abbrev pub IsThere : Turn → Listing → Type 0
IsThere Stay listing = Unit {0}
IsThere (Come to) listing = Unit {0}
IsThere (Go from) listing = Unit {0}
IsThere (Take to) listing = is_some (found_at listing to) ≡ true
IsThere (Shift from to) listing = Unit {0}

abbrev pub AreFree : List Turn → Listing → Type 0
AreFree [] listing = Unit {0}
AreFree (turn ∷ turns) listing = IsFree turn listing × AreFree turns (entered turn listing)

abbrev pub AreThere : List Turn → Listing → Type 0
AreThere [] listing = Unit {0}
AreThere (turn ∷ turns) listing = IsThere turn (settled_all turns listing) × AreThere turns listing

-- each turn can be entered after those before it
pub record CanEnter (turns : List Turn) (listing : Listing) : Type 0 where
  pub columns : AllByRecursion (IsUnder listing.columns) turns
  pub free : AreFree turns listing

-- each turn can be settled after those behind it
pub record CanSettle (turns : List Turn) (listing : Listing) : Type 0 where
  pub columns : AllByRecursion (IsUnder listing.columns) turns
  pub there : AreThere turns listing
