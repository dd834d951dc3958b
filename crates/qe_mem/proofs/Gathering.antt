-- Rows that are found by several keys, each once and in the order of their ids.
use Rattle.std.proofs.Common.{◌≡◌, ℕ, ◌<◌, ◌≤◌, List, [], ◌∷◌, filter, find, length, get_or, Option, Some, None, Bool, true, false, cond, ◌||◌, refl, sym, ap, subst, ◌∙◌, arith, Ordering, Less, Equal, Greater, is_eq}
use Rattle.std.specs.Prelude.{Result, Ok, Err, IfOk}
use mathlib.Core.Bool.{true≢false}
use Rattle.std.specs.List.{AllByRecursion, list_any}
use Rattle.std.specs.List.Sorted.{IsStrictlySortedBy}
use Rattle.std.specs.Ordering.{ordering_then, ordering_reverse, match_ordering}
use Rattle.std.specs.BTreeSet.{insert_key}
use Rattle.std.specs.Cmp.{IsTotalOrder}
use Rattle.std.specs.Cmp.Lexicographic.{lists_ties}
use Rattle.std.proofs.lemmas.List.Kept.{IsStrictlySortedBy-filter}
use Rattle.std.proofs.lemmas.Slice.Eq.{bytes_eq-Decides}
use Rattle.qe_base.specs.Values.{value_cmp}
use Rattle.qe_base.specs.declared.value.Row.{Row}
use Rattle.qe_schema.specs.Columns.{Values, at_columns, are_same, values_cmp}
use Rattle.qe_view.specs.After.{is_wanted}
use Rattle.qe_mem.specs.Keys.{key_part, id_part, under, stands_at, row_order}
use Rattle.qe_mem.specs.KeyOrder.{keyed_cmp_total, values_cmp_total}
use Rattle.qe_mem.specs.Listings.{Listing, no_listing, has_key, goes_by, IsInOrder}
use Rattle.qe_mem.specs.Turns.{with_row}
use Rattle.qe_mem.specs.Gathered.{has_one_of, with_all, gathered, IsIndexOf}
use Rattle.qe_mem.specs.Kept.{ArePaired, IsOrderOf}
use Rattle.qe_mem.specs.declared.keyed.Columns.{Columns}
use Rattle.qe_mem.specs.declared.keyed.Columns.TheVariants.{Whole, Listed}
use Rattle.qe_mem.specs.declared.keyed.Keyed.{Keyed}
use Rattle.qe_mem.proofs.Standing.{eq_of, keep, all_mapped, none_above, find-filter, same_rows, sorted-insert}

-- ---- rows of one key in an order are those of the table

find_const : {X : Type 0} (p q : X → Bool) (b : Bool) → ((x : X) → p x ≡ true → q x ≡ b) → (xs : List X) → find p (filter q xs) ≡ cond b (find p xs) None
find_const {X} p q b const [] = none b
  where
    none : (b : Bool) → (let o : Option X = None in o) ≡ cond b None None
    none true = refl
    none false = refl
find_const {X} p q b const (x ∷ xs) = by_tests (p x) (q x) refl refl (find_const p q b const xs)
  where
    by_const : (d : Bool) → b ≡ d → q x ≡ true → p x ≡ true → cond d (Some x) None ≡ Some x
    by_const true is_b is_q is_p = refl
    by_const false is_b is_q is_p = absurd (true≢false (sym is_q ∙ const x is_p ∙ is_b))

    not_kept : (d : Bool) → b ≡ d → q x ≡ false → p x ≡ true → cond d (find p xs) None ≡ cond d (Some x) None
    not_kept true is_b is_q is_p = absurd (true≢false (sym is_b ∙ sym (const x is_p) ∙ is_q))
    not_kept false is_b is_q is_p = refl

    by_tests : (d k : Bool) → p x ≡ d → q x ≡ k → find p (filter q xs) ≡ cond b (find p xs) None → find p (cond k (x ∷ filter q xs) (filter q xs)) ≡ cond b (cond d (Some x) (find p xs)) None
    by_tests true true is_p is_q later = rw is_p (sym (by_const b refl is_q is_p))
    by_tests true false is_p is_q later = later ∙ not_kept b refl is_q is_p
    by_tests false true is_p is_q later = rw is_p later
    by_tests false false is_p is_q later = later

first_equal : (o p : Ordering) → is_eq (ordering_then o p) ≡ true → o ≡ Equal
first_equal Equal p is = refl
first_equal Less p is = cc
first_equal Greater p is = cc

-- rows at one place have one key
same_key : (order : Columns) (row other : Row) → stands_at order (under order row) other ≡ true → (key : Values) → has_key order key other ≡ has_key order key row
same_key order row other at key =
    let equal : values_cmp (key_part order row) (key_part order other) ≡ Equal = first_equal (values_cmp (key_part order row) (key_part order other)) (values_cmp (id_part order row) (id_part order other)) at in
    ap is_eq (values_cmp_total.antisymm key (key_part order other) ∙ ap ordering_reverse (sym (values_cmp_total.congr (key_part order row) (key_part order other) key equal)) ∙ sym (values_cmp_total.antisymm key (key_part order row)))

then_none : (o : Ordering) → ordering_then o Equal ≡ o
then_none Less = refl
then_none Equal = refl
then_none Greater = refl

-- rows of one key go by their ids
by_ids_then : (ids order : Columns) → ArePaired ids order → (key : Values) (x y : Row) → has_key order key x ≡ true → has_key order key y ≡ true → row_order ids x y ≡ Less → row_order order x y ≡ Less
by_ids_then Whole order paired key x y at_x at_y less = absurd paired
by_ids_then (Listed ids none) Whole paired key x y at_x at_y less = absurd paired
by_ids_then (Listed ids none) (Listed columns again) paired key x y at_x at_y less =
    let same : values_cmp (at_columns columns x) (at_columns columns y) ≡ Equal = sym (values_cmp_total.congr key (at_columns columns x) (at_columns columns y) (eq_of _ at_x)) ∙ eq_of _ at_y in
    ap (λ o. ordering_then o (values_cmp (at_columns again x) (at_columns again y))) same
    ∙ ap (λ n. values_cmp (at_columns n x) (at_columns n y)) paired.1
    ∙ sym (then_none (values_cmp (at_columns ids x) (at_columns ids y)))
    ∙ ap (λ n. ordering_then (values_cmp (at_columns ids x) (at_columns ids y)) (values_cmp (at_columns n x) (at_columns n y))) (sym paired.0) ∙ less

above_kept : (ids order : Columns) → ArePaired ids order → (key : Values) (x : Row) (rows : List Row) → has_key order key x ≡ true → AllByRecursion (λ y. row_order ids x y ≡ Less) rows → AllByRecursion (λ y. row_order order x y ≡ Less) (filter (has_key order key) rows)
above_kept ids order paired key x [] at_x above = tt
above_kept ids order paired key x (y ∷ rows) at_x above = by_test (has_key order key y) refl (above_kept ids order paired key x rows at_x above.1)
  where
    by_test : (b : Bool) → has_key order key y ≡ b → AllByRecursion (λ z. row_order order x z ≡ Less) (filter (has_key order key) rows) → AllByRecursion (λ z. row_order order x z ≡ Less) (cond b (y ∷ filter (has_key order key) rows) (filter (has_key order key) rows))
    by_test true is later = (by_ids_then ids order paired key x y at_x is above.0, later)
    by_test false is later = later

sorted_kept : (ids order : Columns) → ArePaired ids order → (key : Values) (rows : List Row) → IsStrictlySortedBy (row_order ids) rows → IsStrictlySortedBy (row_order order) (filter (has_key order key) rows)
unfolding IsStrictlySortedBy
sorted_kept ids order paired key [] sorted = tt
sorted_kept ids order paired key (x ∷ rows) sorted = by_test (has_key order key x) refl (sorted_kept ids order paired key rows sorted.1)
  where
    by_test : (b : Bool) → has_key order key x ≡ b → IsStrictlySortedBy (row_order order) (filter (has_key order key) rows) → IsStrictlySortedBy (row_order order) (cond b (x ∷ filter (has_key order key) rows) (filter (has_key order key) rows))
    by_test true is later = (above_kept ids order paired key x rows is sorted.0, later)
    by_test false is later = later

pub order_is_index : (rows listing : Listing) → IsInOrder rows → IsOrderOf rows listing → IsIndexOf rows listing
order_is_index rows listing in_order is key =
    same_rows keyed_cmp_total (under listing.columns) (filter (has_key listing.columns key) listing.rows) (filter (has_key listing.columns key) rows.rows)
    (IsStrictlySortedBy-filter (row_order listing.columns) (has_key listing.columns key) listing.rows is.in_order)
    (sorted_kept rows.columns listing.columns is.columns key rows.rows in_order)
    (λ row. find_const (stands_at listing.columns (under listing.columns row)) (has_key listing.columns key) (has_key listing.columns key row) (λ other at. same_key listing.columns row other at key) listing.rows
    ∙ ap (λ found. cond (has_key listing.columns key row) found None) (is.same row)
    ∙ sym (find_const (stands_at listing.columns (under listing.columns row)) (has_key listing.columns key) (has_key listing.columns key row) (λ other at. same_key listing.columns row other at key) rows.rows))

-- ---- what is gathered

abbrev or_else : {X : Type 0} → Option X → Option X → Option X
or_else (Some x) later = Some x
or_else None later = later

or_none : {X : Type 0} (o : Option X) → or_else o None ≡ o
or_none (Some x) = refl
or_none None = refl

or_assoc : {X : Type 0} (o p r : Option X) → or_else (or_else o p) r ≡ or_else o (or_else p r)
or_assoc (Some x) p r = refl
or_assoc None p r = refl

or_kept : {X : Type 0} (p q : X → Bool) (o : Option X) → or_else (keep p o) (keep q o) ≡ keep (λ x. p x || q x) o
or_kept p q None = refl
or_kept p q (Some x) = by_test (p x)
  where
    by_test : (b : Bool) → or_else (cond b (Some x) None) (cond (q x) (Some x) None) ≡ cond (b || q x) (Some x) None
    by_test true = refl
    by_test false = refl

module _ {K X : Type 0} {R : K → K → Ordering} (total : IsTotalOrder R) (e : X → K) where
  abbrev order : X → X → Ordering
  order x y = R (e x) (e y)

  abbrev at : K → X → Bool
  at p x = is_eq (R p (e x))

  -- an entered row stands at its place, unless another does already
  find_entered : (p : K) (x : X) (xs : List X) → IsStrictlySortedBy order xs → find (at p) (insert_key order xs x) ≡ or_else (find (at p) xs) (cond (at p x) (Some x) None)
  unfolding IsStrictlySortedBy
  find_entered p x [] sorted = refl
  find_entered p x (y ∷ ys) sorted = by_order (order x y) refl (find_entered p x ys sorted.1)
    where
      first : (b : Bool) → at p x ≡ b → (b ≡ true → find (at p) (y ∷ ys) ≡ None) → cond b (Some x) (find (at p) (y ∷ ys)) ≡ or_else (find (at p) (y ∷ ys)) (cond b (Some x) None)
      first true is none = sym (ap (λ o. or_else o (Some x)) (none refl))
      first false is none = sym (or_none (find (at p) (y ∷ ys)))

      none_of : order x y ≡ Less → at p x ≡ true → find (at p) (y ∷ ys) ≡ None
      none_of less is =
          none_above total e p (y ∷ ys)
          (total.congr p (e x) (e y) (eq_of _ is) ∙ less, all_mapped (λ z. order y z ≡ Less) (λ z. R p (e z) ≡ Less) (λ z later. total.congr p (e x) (e z) (eq_of _ is) ∙ total.trans (e x) (e y) (e z) less later) ys sorted.0)

      same_test : order x y ≡ Equal → at p x ≡ at p y
      same_test is = ap is_eq (total.antisymm p (e x) ∙ ap ordering_reverse (total.congr (e x) (e y) p is) ∙ sym (total.antisymm p (e y)))

      here : order x y ≡ Equal → (b d : Bool) → at p x ≡ b → at p y ≡ d → cond d (Some y) (find (at p) ys) ≡ or_else (cond d (Some y) (find (at p) ys)) (cond b (Some x) None)
      here same b true is_x is_y = refl
      here same true false is_x is_y = absurd (true≢false (sym is_x ∙ same_test same ∙ is_y))
      here same false false is_x is_y = sym (or_none (find (at p) ys))

      behind : (d : Bool) → find (at p) (insert_key order ys x) ≡ or_else (find (at p) ys) (cond (at p x) (Some x) None) → cond d (Some y) (find (at p) (insert_key order ys x)) ≡ or_else (cond d (Some y) (find (at p) ys)) (cond (at p x) (Some x) None)
      behind true later = refl
      behind false later = later

      by_order : (o : Ordering) → order x y ≡ o → find (at p) (insert_key order ys x) ≡ or_else (find (at p) ys) (cond (at p x) (Some x) None)
          → find (at p) (match_ordering o (x ∷ y ∷ ys) (y ∷ ys) (y ∷ insert_key order ys x)) ≡ or_else (find (at p) (y ∷ ys)) (cond (at p x) (Some x) None)
      by_order Less is later = first (at p x) refl (none_of is)
      by_order Equal is later = here is (at p x) (at p y) refl refl
      by_order Greater is later = behind (at p y) later

with_all_found : (rows : List Row) (found : Listing) (place : Keyed) → IsInOrder found → find (stands_at found.columns place) (with_all rows found).rows ≡ or_else (find (stands_at found.columns place) found.rows) (find (stands_at found.columns place) rows)
with_all_found [] found place in_order = sym (or_none (find (stands_at found.columns place) found.rows))
with_all_found (row ∷ rows) found place in_order =
    with_all_found rows (with_row row found) place (sorted-insert keyed_cmp_total (under found.columns) row found.rows in_order)
    ∙ ap (λ o. or_else o (find (stands_at found.columns place) rows)) (find_entered keyed_cmp_total (under found.columns) place row found.rows in_order)
    ∙ or_assoc (find (stands_at found.columns place) found.rows) (cond (stands_at found.columns place row) (Some row) None) (find (stands_at found.columns place) rows)
    ∙ ap (or_else (find (stands_at found.columns place) found.rows)) (by_test (stands_at found.columns place row))
  where
    by_test : (b : Bool) → or_else (cond b (Some row) None) (find (stands_at found.columns place) rows) ≡ cond b (Some row) (find (stands_at found.columns place) rows)
    by_test true = refl
    by_test false = refl

with_all_columns : (rows : List Row) (found : Listing) → (with_all rows found).columns ≡ found.columns
with_all_columns [] found = refl
with_all_columns (row ∷ rows) found = with_all_columns rows (with_row row found)

with_all_in_order : (rows : List Row) (found : Listing) → IsInOrder found → IsInOrder (with_all rows found)
with_all_in_order [] found in_order = in_order
with_all_in_order (row ∷ rows) found in_order = with_all_in_order rows (with_row row found) (sorted-insert keyed_cmp_total (under found.columns) row found.rows in_order)

-- what was found so far are the table's rows that pass a test
record SoFar (table found : Listing) (passes : Row → Bool) : Type 0 where
  pub columns : found.columns ≡ table.columns
  pub in_order : IsInOrder found
  pub same : (row : Row) → find (stands_at table.columns (under table.columns row)) found.rows ≡ keep passes (find (stands_at table.columns (under table.columns row)) table.rows)

more_found : (table listing found : Listing) (key : Row) (passes : Row → Bool) → IsInOrder table → IsIndexOf table listing → SoFar table found passes
    → SoFar table (with_all (filter (has_key listing.columns key.values) listing.rows) found) (λ row. passes row || has_key listing.columns key.values row)
more_found table listing found key passes in_order index so_far = record {
  columns = with_all_columns (filter (has_key listing.columns key.values) listing.rows) found ∙ so_far.columns;
  in_order = with_all_in_order (filter (has_key listing.columns key.values) listing.rows) found so_far.in_order;
  same = λ row. ap (λ c. find (stands_at c (under table.columns row)) (with_all (filter (has_key listing.columns key.values) listing.rows) found).rows) (sym so_far.columns)
      ∙ with_all_found (filter (has_key listing.columns key.values) listing.rows) found (under table.columns row) so_far.in_order
      ∙ ap (λ c. or_else (find (stands_at c (under table.columns row)) found.rows) (find (stands_at c (under table.columns row)) (filter (has_key listing.columns key.values) listing.rows))) so_far.columns
      ∙ (λ i. or_else (so_far.same row i) (find (stands_at table.columns (under table.columns row)) (index key.values i)))
      ∙ ap (or_else (keep passes (find (stands_at table.columns (under table.columns row)) table.rows))) (find-filter keyed_cmp_total (under table.columns) (under table.columns row) (has_key listing.columns key.values) table.rows in_order)
      ∙ or_kept passes (has_key listing.columns key.values) (find (stands_at table.columns (under table.columns row)) table.rows);
}

or_turn : (a b c : Bool) → (a || b) || c ≡ a || (b || c)
or_turn true b c = refl
or_turn false b c = refl

all_gathered : (table listing : Listing) (keys : List Row) (found : Listing) (passes : Row → Bool) → IsInOrder table → IsIndexOf table listing → SoFar table found passes → SoFar table (gathered listing keys found) (λ row. passes row || has_one_of listing.columns keys row)
all_gathered table listing [] found passes in_order index so_far = subst (SoFar table found) (λ i row. or_false (passes row) i) so_far
  where
    or_false : (b : Bool) → b ≡ b || false
    or_false true = refl
    or_false false = refl
all_gathered table listing (key ∷ keys) found passes in_order index so_far =
    subst (SoFar table (gathered listing keys (with_all (filter (has_key listing.columns key.values) listing.rows) found))) (λ i row. or_turn (passes row) (has_key listing.columns key.values row) (has_one_of listing.columns keys row) i)
    (all_gathered table listing keys (with_all (filter (has_key listing.columns key.values) listing.rows) found) (λ row. passes row || has_key listing.columns key.values row) in_order index (more_found table listing found key passes in_order index so_far))

nothing_found : (table : Listing) → SoFar table (no_listing table.columns) (λ row. false)
unfolding IsStrictlySortedBy
nothing_found table = record { columns = refl; in_order = tt; same = λ row. none (find (stands_at table.columns (under table.columns row)) table.rows) }
  where
    none : (o : Option Row) → None ≡ keep (λ row. false) o
    none None = refl
    none (Some row) = refl

pub gathered_is : (table listing : Listing) (keys : List Row) → IsInOrder table → IsIndexOf table listing → (gathered listing keys (no_listing table.columns)).rows ≡ filter (has_one_of listing.columns keys) table.rows
gathered_is table listing keys in_order index =
    same_rows keyed_cmp_total (under table.columns) (gathered listing keys (no_listing table.columns)).rows (filter (has_one_of listing.columns keys) table.rows)
    (subst (λ c. IsStrictlySortedBy (row_order c) (gathered listing keys (no_listing table.columns)).rows) done.columns done.in_order)
    (IsStrictlySortedBy-filter (row_order table.columns) (has_one_of listing.columns keys) table.rows in_order)
    (λ row. done.same row ∙ sym (find-filter keyed_cmp_total (under table.columns) (under table.columns row) (has_one_of listing.columns keys) table.rows in_order))
  where
    done : SoFar table (gathered listing keys (no_listing table.columns)) (has_one_of listing.columns keys)
    done = all_gathered table listing keys (no_listing table.columns) (λ row. false) in_order index (nothing_found table)

-- ---- one key

only_one : (xs : List Row) (x : Row) → 1 ≤ length xs → length xs < 2 → x ≡ get_or xs 0 x → xs ≡ x ∷ []
only_one [] x least below is = absurd (omega arith)
only_one (y ∷ []) x least below is = ap (λ z. z ∷ []) (sym is)
only_one (y ∷ z ∷ xs) x least below is = absurd (omega arith)

or_false : (b : Bool) → b || false ≡ b
or_false true = refl
or_false false = refl

pub one_key : (table listing : Listing) (keys : List Row) (key : Row) → IsIndexOf table listing → 1 ≤ length keys → length keys < 2 → key ≡ get_or keys 0 key → filter (has_key listing.columns key.values) listing.rows ≡ filter (has_one_of listing.columns keys) table.rows
one_key table listing keys key index least below is =
    index key.values ∙ (λ i. filter (λ row. sym (or_false (has_key listing.columns key.values row)) i) table.rows) ∙ ap (λ l. filter (has_one_of listing.columns l) table.rows) (sym (only_one keys key least below is))

pub if_same : {T E : Type 0} (r : Result T E) (a b : T) → a ≡ b → IfOk r (λ x. x ≡ a) → IfOk r (λ x. x ≡ b)
if_same (Ok x) a b same is = is ∙ same
if_same (Err e) a b same is = tt

-- ---- rows by the columns that are asked

same_by_order : (xs ys : Values) → are_same xs ys ≡ is_eq (values_cmp xs ys)
same_by_order = lists_ties value_cmp (λ x y. refl)

turned_eq : (o : Ordering) → is_eq (ordering_reverse o) ≡ is_eq o
turned_eq Less = refl
turned_eq Equal = refl
turned_eq Greater = refl

any_same : (p q : Row → Bool) → ((key : Row) → p key ≡ q key) → (keys : List Row) → list_any p keys ≡ list_any q keys
any_same p q same [] = refl
any_same p q same (key ∷ keys) = λ i. same key i || any_same p q same keys i

wanted_by : (order : Columns) (columns : List ℕ) (keys : List Row) → goes_by columns order ≡ true → (row : Row) → has_one_of order keys row ≡ is_wanted columns keys row
wanted_by Whole columns keys is row = cc
wanted_by (Listed key id) columns keys is row =
    any_same (λ one. has_key (Listed key id) one.values row) (λ one. are_same (at_columns columns row) one.values)
    (λ one. ap (λ c. is_eq (values_cmp one.values (at_columns c row))) (sym ((bytes_eq-Decides columns key).0 is))
    ∙ ap is_eq (values_cmp_total.antisymm one.values (at_columns columns row)) ∙ turned_eq (values_cmp (at_columns columns row) one.values)
    ∙ sym (same_by_order (at_columns columns row) one.values)) keys

pub found_wanted : (order : Columns) (columns : List ℕ) (keys rows : List Row) → goes_by columns order ≡ true → filter (has_one_of order keys) rows ≡ filter (is_wanted columns keys) rows
found_wanted order columns keys rows is = λ i. filter (λ row. wanted_by order columns keys is row i) rows

pub found_by : (columns : List ℕ) (orders : List Listing) (found : Listing) → find (λ listing. goes_by columns listing.columns) orders ≡ Some found → (P : Listing → Type 0) → AllByRecursion P orders → P found × (goes_by columns found.columns ≡ true)
found_by columns [] found is P all = cc
found_by columns (first ∷ orders) found is P all = by_test (goes_by columns first.columns) refl is (λ later. found_by columns orders found later P all.1)
  where
    the_one : Some first ≡ Some found → first ≡ found
    the_one is = cc

    by_test : (b : Bool) → goes_by columns first.columns ≡ b → cond b (Some first) (find (λ listing. goes_by columns listing.columns) orders) ≡ Some found
        → (find (λ listing. goes_by columns listing.columns) orders ≡ Some found → P found × (goes_by columns found.columns ≡ true)) → P found × (goes_by columns found.columns ≡ true)
    by_test true goes is later = (subst P (the_one is) all.0, subst (λ (l : Listing). goes_by columns l.columns ≡ true) (the_one is) goes)
    by_test false goes is later = later is
