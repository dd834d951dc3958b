-- The orders of a table have its rows, also after all its changes.
use Rattle.std.proofs.Common.{◌≡◌, ℕ, zero, suc, List, [], ◌∷◌, map, find, length, get_or, Option, Some, None, Bool, true, false, cond, refl, sym, ap, subst, ◌∙◌, arith}
use mathlib.Core.Bool.{true≢false}
use Rattle.std.specs.List.{AllByRecursion}
use Rattle.std.specs.List.Sorted.{IsStrictlySortedBy}
use Rattle.qe_base.specs.declared.value.Row.{Row}
use Rattle.qe_mem.specs.Keys.{under, stands_at, row_order}
use Rattle.qe_mem.specs.KeyOrder.{keyed_cmp_total}
use Rattle.qe_mem.specs.Listings.{Listing, found_at, IsInOrder}
use Rattle.qe_mem.specs.Turns.{turn_of, entered_all, settled_all, IsUnder, CanEnter, CanSettle}
use Rattle.qe_mem.specs.Each.{each, AllOfBoth}
use Rattle.qe_mem.specs.Plans.{Pending, swap_at, turns_in, plan_for, plans_for, entered_table, settled_table, CanEnterTable, CanSettleTable}
use Rattle.qe_mem.specs.Kept.{ArePaired, IsOrderOf, IsExact, AreExact, kept_at, columns_of, orders_of}
use Rattle.qe_mem.specs.declared.keyed.Columns.{Columns}
use Rattle.qe_mem.specs.declared.table.MemTable.{MemTable}
use Rattle.qe_mem.specs.declared.turns.Swap.{Swap}
use Rattle.qe_mem.proofs.Standing.{keep, find_narrow, found_kept}
use Rattle.qe_mem.proofs.Turning.{all_entered_columns, all_settled_columns}
use Rattle.qe_mem.proofs.Swapping.{Refines, refines_itself, refines_paired}
use Rattle.qe_mem.proofs.Swapped.{AreEntries, said_at, by_entry, turn_under, Outcome, swapped}

under_all : (columns : Columns) (swaps : List Swap) → AllByRecursion (IsUnder columns) (map (turn_of columns) swaps)
under_all columns [] = tt
under_all columns (swap ∷ swaps) = (turn_under columns swap.old swap.new, under_all columns swaps)

-- what stands at a place of an order stands at its id, or nothing does
entry_kept : (ids order : Columns) → Refines ids order → (row : Row) (said : Option (Option Row)) (before : Option Row) → by_entry order row said (keep (stands_at order (under order row)) before) ≡ keep (stands_at order (under order row)) (by_entry ids row said before)
entry_kept ids order refines row None before = refl
entry_kept ids order refines row (Some None) before = refl
entry_kept ids order refines row (Some (Some x)) before = by_test (stands_at ids (under ids row) x) refl
  where
    apart : (b : Bool) → stands_at order (under order row) x ≡ b → stands_at ids (under ids row) x ≡ false → cond b (Some x) None ≡ None
    apart true is not_its = absurd (true≢false (sym (refines row x is) ∙ not_its))
    apart false is not_its = refl

    by_test : (b : Bool) → stands_at ids (under ids row) x ≡ b → cond (stands_at order (under order row) x) (Some x) None ≡ keep (stands_at order (under order row)) (cond b (Some x) None)
    by_test true is = refl
    by_test false is = apart (stands_at order (under order row) x) refl is

module _ (rows : Listing) (in_order : IsInOrder rows) (pending : Pending) (entries : AreEntries rows.columns pending) where
  abbrev swaps : List Swap
  swaps = map (swap_at rows) pending

  abbrev settled_rows : Listing
  settled_rows = settled_all (turns_in swaps rows) (entered_all (turns_in swaps rows) rows)

  by_ids : Outcome rows.columns rows.columns (refines_itself rows.columns) rows.rows in_order pending rows
  by_ids = swapped rows.columns rows.columns (refines_itself rows.columns) rows.rows in_order pending entries rows refl in_order (λ row _. found_kept keyed_cmp_total (under rows.columns) (under rows.columns row) rows.rows)

  pub rows_can_enter : CanEnter (turns_in swaps rows) rows
  rows_can_enter = record { columns = under_all rows.columns swaps; free = by_ids.free }

  pub rows_can_settle : CanSettle (turns_in swaps rows) (entered_all (turns_in swaps rows) rows)
  rows_can_settle = record { columns = subst (λ c. AllByRecursion (IsUnder c) (turns_in swaps rows)) (sym (all_entered_columns (turns_in swaps rows) rows)) (under_all rows.columns swaps); there = by_ids.there }

  pub rows_in_order : IsInOrder settled_rows
  rows_in_order = by_ids.in_order

  pub same_columns : (listing : Listing) → (settled_all (turns_in swaps listing) (entered_all (turns_in swaps listing) listing)).columns ≡ listing.columns
  same_columns listing = all_settled_columns (turns_in swaps listing) (entered_all (turns_in swaps listing) listing) ∙ all_entered_columns (turns_in swaps listing) listing

  pub rows_found : (row : Row) → find (stands_at rows.columns (under rows.columns row)) settled_rows.rows ≡ by_entry rows.columns row (said_at rows.columns row pending) (found_at rows (under rows.columns row))
  rows_found row = ap (λ c. find (stands_at c (under rows.columns row)) settled_rows.rows) (sym (same_columns rows)) ∙ by_ids.found row

  pub rows_sorted_by : IsStrictlySortedBy (row_order rows.columns) settled_rows.rows
  rows_sorted_by = subst (λ c. IsStrictlySortedBy (row_order c) settled_rows.rows) (same_columns rows) rows_in_order

  -- ---- a further order

  module _ (listing : Listing) (is : IsOrderOf rows listing) where
    abbrev order : Columns
    order = listing.columns

    refines : Refines rows.columns order
    refines = refines_paired rows.columns order is.columns

    follows : (row : Row) → found_at listing (under order row) ≡ keep (stands_at order (under order row)) (found_at rows (under rows.columns row))
    follows row = is.same row ∙ find_narrow keyed_cmp_total (under rows.columns) (under rows.columns row) (stands_at order (under order row)) (refines row) rows.rows in_order

    by_order : Outcome rows.columns order refines rows.rows in_order pending listing
    by_order = swapped rows.columns order refines rows.rows in_order pending entries listing refl is.in_order (λ row _. follows row)

    order_can_enter : CanEnter (turns_in swaps listing) listing
    order_can_enter = record { columns = under_all order swaps; free = by_order.free }

    order_can_settle : CanSettle (turns_in swaps listing) (entered_all (turns_in swaps listing) listing)
    order_can_settle = record { columns = subst (λ c. AllByRecursion (IsUnder c) (turns_in swaps listing)) (sym (all_entered_columns (turns_in swaps listing) listing)) (under_all order swaps); there = by_order.there }

    abbrev settled_order : Listing
    settled_order = settled_all (turns_in swaps listing) (entered_all (turns_in swaps listing) listing)

    same_found : (row : Row) → found_at settled_order (under order row) ≡ find (stands_at order (under order row)) settled_rows.rows
    same_found row =
        by_order.found row ∙ ap (by_entry order row (said_at rows.columns row pending)) (follows row)
        ∙ entry_kept rows.columns order refines row (said_at rows.columns row pending) (found_at rows (under rows.columns row))
        ∙ ap (keep (stands_at order (under order row))) (sym (rows_found row))
        ∙ sym (find_narrow keyed_cmp_total (under rows.columns) (under rows.columns row) (stands_at order (under order row)) (refines row) settled_rows.rows rows_sorted_by)

    order_stays : IsOrderOf settled_rows settled_order
    order_stays = record {
      columns = subst (λ c. ArePaired c settled_order.columns) (sym (same_columns rows)) (subst (ArePaired rows.columns) (sym (same_columns listing)) is.columns);
      in_order = by_order.in_order;
      same = λ row. same_under row settled_order.columns (same_columns listing);
    }
      where
        same_under : (row : Row) (c : Columns) → c ≡ order → found_at settled_order (under c row) ≡ find (stands_at c (under c row)) settled_rows.rows
        same_under row c is_c = subst (λ d. found_at settled_order (under d row) ≡ find (stands_at d (under d row)) settled_rows.rows) (sym is_c) (same_found row)

  pub orders_can_enter : (orders : List Listing) → AllByRecursion (IsOrderOf rows) orders → AllOfBoth CanEnter (map (turns_in swaps) orders) orders
  orders_can_enter [] all = tt
  orders_can_enter (listing ∷ orders) all = (order_can_enter listing all.0, orders_can_enter orders all.1)

  pub orders_can_settle : (orders : List Listing) → AllByRecursion (IsOrderOf rows) orders → AllOfBoth CanSettle (map (turns_in swaps) orders) (each entered_all (map (turns_in swaps) orders) orders)
  orders_can_settle [] all = tt
  orders_can_settle (listing ∷ orders) all = (order_can_settle listing all.0, orders_can_settle orders all.1)

  pub orders_stay : (orders : List Listing) → AllByRecursion (IsOrderOf rows) orders → AllByRecursion (IsOrderOf settled_rows) (each settled_all (map (turns_in swaps) orders) (each entered_all (map (turns_in swaps) orders) orders))
  orders_stay [] all = tt
  orders_stay (listing ∷ orders) all = (order_stays listing all.0, orders_stay orders all.1)

-- ---- tables

abbrev pub done_table : Pending → MemTable → MemTable
done_table pending table = settled_table (plan_for pending table) (entered_table (plan_for pending table) table)

abbrev pub done_all : List Pending → List MemTable → List MemTable
done_all pendings kept = each settled_table (plans_for pendings kept) (each entered_table (plans_for pendings kept) kept)

abbrev pub IsPending : Pending → MemTable → Type 0
IsPending pending table = AreEntries table.rows.columns pending

table_can_enter : (pending : Pending) (table : MemTable) → IsExact table → IsPending pending table → CanEnterTable (plan_for pending table) table
table_can_enter pending table exact entries = record { rows = rows_can_enter table.rows exact.in_order pending entries; orders = orders_can_enter table.rows exact.in_order pending entries table.orders exact.orders }

table_can_settle : (pending : Pending) (table : MemTable) → IsExact table → IsPending pending table → CanSettleTable (plan_for pending table) (entered_table (plan_for pending table) table)
table_can_settle pending table exact entries = record { rows = rows_can_settle table.rows exact.in_order pending entries; orders = orders_can_settle table.rows exact.in_order pending entries table.orders exact.orders }

table_stays_exact : (pending : Pending) (table : MemTable) → IsExact table → IsPending pending table → IsExact (done_table pending table)
table_stays_exact pending table exact entries = record { in_order = rows_in_order table.rows exact.in_order pending entries; orders = orders_stay table.rows exact.in_order pending entries table.orders exact.orders }

pub all_can_enter : (pendings : List Pending) (kept : List MemTable) → AreExact kept → AllOfBoth IsPending pendings kept → AllOfBoth CanEnterTable (plans_for pendings kept) kept
all_can_enter [] kept exact all = tt
all_can_enter (pending ∷ pendings) [] exact all = absurd all
all_can_enter (pending ∷ pendings) (table ∷ kept) exact all = (table_can_enter pending table exact.0 all.0, all_can_enter pendings kept exact.1 all.1)

pub all_can_settle : (pendings : List Pending) (kept : List MemTable) → AreExact kept → AllOfBoth IsPending pendings kept → AllOfBoth CanSettleTable (plans_for pendings kept) (each entered_table (plans_for pendings kept) kept)
all_can_settle [] kept exact all = tt
all_can_settle (pending ∷ pendings) [] exact all = absurd all
all_can_settle (pending ∷ pendings) (table ∷ kept) exact all = (table_can_settle pending table exact.0 all.0, all_can_settle pendings kept exact.1 all.1)

pub all_stay_exact : (pendings : List Pending) (kept : List MemTable) → AreExact kept → AllOfBoth IsPending pendings kept → AreExact (done_all pendings kept)
all_stay_exact [] kept exact all = exact
all_stay_exact (pending ∷ pendings) [] exact all = absurd all
all_stay_exact (pending ∷ pendings) (table ∷ kept) exact all = (table_stays_exact pending table exact.0 all.0, all_stay_exact pendings kept exact.1 all.1)

table_columns : (pending : Pending) (table : MemTable) → columns_of (done_table pending table) ≡ columns_of table
table_columns pending table = λ i. (table.link, (all_settled_columns (plan_for pending table).rows (entered_all (plan_for pending table).rows table.rows) ∙ all_entered_columns (plan_for pending table).rows table.rows) i)

pub all_columns : (pendings : List Pending) (kept : List MemTable) → map columns_of (done_all pendings kept) ≡ map columns_of kept
all_columns [] kept = refl
all_columns (pending ∷ pendings) [] = refl
all_columns (pending ∷ pendings) (table ∷ kept) = λ i. table_columns pending table i ∷ all_columns pendings kept i

order_columns : (all : List Swap) (orders : List Listing) → map (λ (l : Listing). l.columns) (each settled_all (map (turns_in all) orders) (each entered_all (map (turns_in all) orders) orders)) ≡ map (λ (l : Listing). l.columns) orders
order_columns all [] = refl
order_columns all (listing ∷ orders) = λ i. (all_settled_columns (turns_in all listing) (entered_all (turns_in all listing) listing) ∙ all_entered_columns (turns_in all listing) listing) i ∷ order_columns all orders i

pub all_orders : (pendings : List Pending) (kept : List MemTable) → map orders_of (done_all pendings kept) ≡ map orders_of kept
all_orders [] kept = refl
all_orders (pending ∷ pendings) [] = refl
all_orders (pending ∷ pendings) (table ∷ kept) = λ i. order_columns (map (swap_at table.rows) pending) table.orders i ∷ all_orders pendings kept i

-- what comes of the table of a number
pub done_at : (pendings : List Pending) (kept : List MemTable) (table : ℕ) → length pendings ≡ length kept → kept_at (done_all pendings kept) table ≡ done_table (get_or pendings table []) (kept_at kept table)
done_at [] [] table same = refl
done_at [] (one ∷ kept) table same = absurd (omega arith)
done_at (pending ∷ pendings) [] table same = absurd (omega arith)
done_at (pending ∷ pendings) (one ∷ kept) zero same = refl
done_at (pending ∷ pendings) (one ∷ kept) (suc table) same = done_at pendings kept table (omega arith)

pub exact_at : (kept : List MemTable) (table : ℕ) → AreExact kept → IsInOrder (kept_at kept table).rows
unfolding IsStrictlySortedBy
exact_at [] table exact = tt
exact_at (one ∷ kept) zero exact = exact.0.in_order
exact_at (one ∷ kept) (suc table) exact = exact_at kept table exact.1

pub pending_at : (pendings : List Pending) (kept : List MemTable) (table : ℕ) → AllOfBoth IsPending pendings kept → AreEntries (kept_at kept table).rows.columns (get_or pendings table [])
unfolding IsStrictlySortedBy
pending_at [] kept table all = record { in_order = tt; have_ids = tt }
pending_at (pending ∷ pendings) [] table all = absurd all
pending_at (pending ∷ pendings) (one ∷ kept) zero all = all.0
pending_at (pending ∷ pendings) (one ∷ kept) (suc table) all = pending_at pendings kept table all.1

-- what stands at an id of a table
pub done_found : (pending : Pending) (table : MemTable) → IsInOrder table.rows → IsPending pending table → (row : Row)
    → find (stands_at table.rows.columns (under table.rows.columns row)) (done_table pending table).rows.rows ≡ by_entry table.rows.columns row (said_at table.rows.columns row pending) (found_at table.rows (under table.rows.columns row))
done_found pending table in_order entries row = rows_found table.rows in_order pending entries row

pub done_sorted : (pending : Pending) (table : MemTable) → IsInOrder table.rows → IsPending pending table → IsStrictlySortedBy (row_order table.rows.columns) (done_table pending table).rows.rows
done_sorted pending table in_order entries = rows_sorted_by table.rows in_order pending entries
