-- The pairs of a link table as rows.
use Rattle.std.proofs.Common.{◌≡◌, List, [], ◌∷◌, ◌++◌, map, filter, Option, Some, None, Bool, true, false, cond, not, ◌&&◌, refl, sym, ap, ◌∙◌, Ordering, Less, Equal, Greater}
use Rattle.std.specs.Prelude.{IfSome}
use Rattle.std.specs.List.{AllByRecursion}
use Rattle.std.specs.List.Sorted.{IsStrictlySortedBy}
use Rattle.std.specs.Map.{keys_of}
use Rattle.std.specs.Ordering.{is_lt, is_gt, ordering_then}
use Rattle.std.specs.BTreeMap.{insert_entry}
use Rattle.qe_base.specs.Values.{row_cmp, value_cmp, value_eq}
use Rattle.qe_base.specs.ValueOrder.{value_eq_equivalence}
use Rattle.qe_base.specs.declared.schema.Table.{Table}
use Rattle.qe_base.specs.declared.value.Row.{Row}
use Rattle.qe_base.specs.declared.value.Value.{Value}
use Rattle.qe_schema.specs.Columns.{are_same, at_columns, values_cmp}
use Rattle.qe_schema.specs.Pairs.{pair_cmp, is_pair, with_pair, without_pair, PairsAscend, both_values}
use Rattle.qe_schema.specs.Put.{put_among}
use Rattle.qe_schema.specs.Tables.{id_columns, id_of}
use Rattle.qe_view.specs.After.{pair_row, without_id}
use Rattle.qe_overlay.specs.Laid.{id_row}
use Rattle.qe_overlay.specs.Layers.{Entry, rows_and, present, is_entered, put_all, over_rows, pair_of, link_all, over_pairs}
use Rattle.qe_overlay.proofs.Rows.{keyed, Sorted, OwnIds, SortedEntries, put_seen, remove_seen}

abbrev pub Pairs : Type 0
Pairs = List (Value × Value)

abbrev pub as_rows : Pairs → List Row
as_rows pairs = map pair_row pairs

-- a row that is a pair
abbrev pub IsPair : Row → Type 0
IsPair row = pair_row (pair_of row) ≡ row

-- a pair stands under itself
abbrev pub PairEntry : Entry → Type 0
PairEntry entry = IsPair entry.0 × IfSome entry.1 (λ row. row ≡ entry.0)

then_same : (o : Ordering) → ordering_then o Equal ≡ o
then_same Less = refl
then_same Equal = refl
then_same Greater = refl

pairs_again : (pairs : Pairs) → map pair_of (as_rows pairs) ≡ pairs
pairs_again [] = refl
pairs_again (pair ∷ pairs) = ap (λ l. pair ∷ l) (pairs_again pairs)

pub pairs_same : (xs ys : Pairs) → as_rows xs ≡ as_rows ys → xs ≡ ys
pairs_same xs ys is = sym (pairs_again xs) ∙ ap (map pair_of) is ∙ pairs_again ys

as_rows-append : (xs ys : Pairs) → as_rows (xs ++ ys) ≡ as_rows xs ++ as_rows ys
as_rows-append [] ys = refl
as_rows-append (x ∷ xs) ys = ap (λ l. pair_row x ∷ l) (as_rows-append xs ys)

as_rows-filter : (p : Value × Value → Bool) (q : Row → Bool) → ((pair : Value × Value) → p pair ≡ q (pair_row pair)) → (pairs : Pairs) → as_rows (filter p pairs) ≡ filter q (as_rows pairs)
as_rows-filter p q same [] = refl
as_rows-filter p q same (pair ∷ pairs) =
    ap (λ b. as_rows (cond b (pair ∷ filter p pairs) (filter p pairs))) (same pair)
    ∙ elim (q (pair_row pair)) as (λ b. as_rows (cond b (pair ∷ filter p pairs) (filter p pairs)) ≡ cond b (pair_row pair ∷ filter q (as_rows pairs)) (filter q (as_rows pairs))) [ true ↦ ap (λ l. pair_row pair ∷ l) (as_rows-filter p q same pairs) | false ↦ as_rows-filter p q same pairs ]

module _ (table : Table) (id_is : id_columns table ≡ 0 ∷ 1 ∷ []) where
  pub pair_id : (pair : Value × Value) → id_of table (pair_row pair) ≡ both_values pair
  pair_id pair = ap (λ columns. at_columns columns (pair_row pair)) id_is

  same_order : (a b : Value × Value) → pair_cmp a b ≡ values_cmp (id_of table (pair_row a)) (id_of table (pair_row b))
  same_order a b = ap (ordering_then (value_cmp a.0 b.0)) (sym (then_same (value_cmp a.1 b.1))) ∙ sym (λ i. values_cmp (pair_id a i) (pair_id b i))

  pub with_as_rows : (pair : Value × Value) (pairs : Pairs) → as_rows (with_pair pair pairs) ≡ put_among table (pair_row pair) (as_rows pairs)
  with_as_rows pair pairs =
      as_rows-append (filter (λ other. is_lt (pair_cmp other pair)) pairs) _
      ∙ (λ i. as_rows-filter (λ other. is_lt (pair_cmp other pair)) (λ row. is_lt (values_cmp (id_of table row) (id_of table (pair_row pair)))) (λ other. ap is_lt (same_order other pair)) pairs i
      ++ pair_row pair ∷ as_rows-filter (λ other. is_gt (pair_cmp other pair)) (λ row. is_gt (values_cmp (id_of table row) (id_of table (pair_row pair)))) (λ other. ap is_gt (same_order other pair)) pairs i)

  and_true : (b : Bool) → b && true ≡ b
  and_true true = refl
  and_true false = refl

  pair_is : (pair other : Value × Value) → is_pair pair other ≡ are_same (id_of table (pair_row other)) (both_values pair)
  pair_is pair other =
      (λ i. value_eq_equivalence.symm pair.0 other.0 i && (value_eq_equivalence.symm pair.1 other.1 ∙ sym (and_true (value_eq other.1 pair.1))) i)
      ∙ sym (ap (λ id. are_same id (both_values pair)) (pair_id other))

  pub without_as_rows : (pair : Value × Value) (pairs : Pairs) → as_rows (without_pair pair pairs) ≡ without_id table (both_values pair) (as_rows pairs)
  without_as_rows pair pairs = as_rows-filter (λ other. not (is_pair pair other)) (λ row. not (are_same (id_of table row) (both_values pair))) (λ other. ap not (pair_is pair other)) pairs

  ascend_later : (pair : Value × Value) (pairs : Pairs) → AllByRecursion (λ later. pair_cmp pair later ≡ Less) pairs → AllByRecursion (λ k. row_cmp (id_row table (pair_row pair)) k ≡ Less) (keys_of (keyed table (as_rows pairs)))
  ascend_later pair [] all = tt
  ascend_later pair (next ∷ pairs) all = (sym (same_order pair next) ∙ all.0, ascend_later pair pairs all.1)

  pub pairs_sorted : (pairs : Pairs) → PairsAscend pairs → Sorted table (as_rows pairs)
  unfolding IsStrictlySortedBy
  pairs_sorted [] ascend = tt
  pairs_sorted (pair ∷ pairs) ascend = (ascend_later pair pairs ascend.0, pairs_sorted pairs ascend.1)

  -- each row that is there is a pair, under its own id
  pub pairs_own : (entries : List Entry) → AllByRecursion PairEntry entries → OwnIds table entries
  pairs_own [] all = tt
  pairs_own (e ∷ entries) all = (by_now e.1 all.0.1, pairs_own entries all.1)
    where
      by_now : (now : Option Row) → IfSome now (λ row. row ≡ e.0) → IfSome now (λ row. id_of table row ≡ e.0.values)
      by_now None same = tt
      by_now (Some row) same = ap (id_of table) (same ∙ sym all.0.0) ∙ pair_id (pair_of e.0) ∙ ap (λ (row : Row). row.values) all.0.0

  all_as_rows : (entries : List Entry) (base : Pairs) → AllByRecursion PairEntry entries → as_rows (link_all (map pair_of (present entries)) base) ≡ put_all table (present entries) (as_rows base)
  all_as_rows [] base all = refl
  all_as_rows (e ∷ entries) base all = by_now e.1 all.0.1 (all_as_rows entries base all.1)
    where
      by_now : (now : Option Row) → IfSome now (λ row. row ≡ e.0) → as_rows (link_all (map pair_of (present entries)) base) ≡ put_all table (present entries) (as_rows base)
          → as_rows (link_all (map pair_of (rows_and (present entries) now)) base) ≡ put_all table (rows_and (present entries) now) (as_rows base)
      by_now None same later = later
      by_now (Some row) same later =
          with_as_rows (pair_of row) (link_all (map pair_of (present entries)) base)
          ∙ (λ i. put_among table ((ap (λ (r : Row). pair_row (pair_of r)) same ∙ all.0.0 ∙ sym same) i) (later i))

  -- the pairs seen are the rows seen
  pub over_as_rows : (entries : List Entry) (pairs : Pairs) → AllByRecursion PairEntry entries → as_rows (over_pairs entries pairs) ≡ over_rows table entries (as_rows pairs)
  over_as_rows entries pairs all =
      all_as_rows entries (filter (λ pair. not (is_entered entries (both_values pair))) pairs) all
      ∙ ap (put_all table (present entries)) (as_rows-filter (λ pair. not (is_entered entries (both_values pair))) (λ row. not (is_entered entries (id_of table row))) (λ pair. ap (λ id. not (is_entered entries id)) (sym (pair_id pair))) pairs)

  pub link_seen : (entries : List Entry) (pairs : Pairs) (pair : Value × Value) → SortedEntries entries → AllByRecursion PairEntry entries → AllByRecursion PairEntry (insert_entry row_cmp entries (pair_row pair) (Some (pair_row pair))) → PairsAscend pairs
      → over_pairs (insert_entry row_cmp entries (pair_row pair) (Some (pair_row pair))) pairs ≡ with_pair pair (over_pairs entries pairs)
  link_seen entries pairs pair sorted all later ascend =
      pairs_same (over_pairs (insert_entry row_cmp entries (pair_row pair) (Some (pair_row pair))) pairs) (with_pair pair (over_pairs entries pairs))
      (over_as_rows (insert_entry row_cmp entries (pair_row pair) (Some (pair_row pair))) pairs later
      ∙ put_seen table entries (as_rows pairs) (pair_row pair) (pair_row pair) sorted (pairs_own entries all) (pairs_sorted pairs ascend) (pair_id pair)
      ∙ ap (put_among table (pair_row pair)) (sym (over_as_rows entries pairs all))
      ∙ sym (with_as_rows pair (over_pairs entries pairs)))

  pub unlink_seen : (entries : List Entry) (pairs : Pairs) (pair : Value × Value) → SortedEntries entries → AllByRecursion PairEntry entries → AllByRecursion PairEntry (insert_entry row_cmp entries (pair_row pair) None) → PairsAscend pairs
      → over_pairs (insert_entry row_cmp entries (pair_row pair) None) pairs ≡ without_pair pair (over_pairs entries pairs)
  unlink_seen entries pairs pair sorted all later ascend =
      pairs_same (over_pairs (insert_entry row_cmp entries (pair_row pair) None) pairs) (without_pair pair (over_pairs entries pairs))
      (over_as_rows (insert_entry row_cmp entries (pair_row pair) None) pairs later
      ∙ remove_seen table entries (as_rows pairs) (pair_row pair) sorted (pairs_own entries all) (pairs_sorted pairs ascend)
      ∙ ap (without_id table (both_values pair)) (sym (over_as_rows entries pairs all))
      ∙ sym (without_as_rows pair (over_pairs entries pairs)))
