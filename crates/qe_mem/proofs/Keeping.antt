-- Rows under columns, beside the rows alone.
use Rattle.std.proofs.Common.{◌≡◌, List, [], ◌∷◌, Bool, true, false, cond, refl, sym, ap, ◌∙◌, Ordering, Less, Equal, Greater, is_eq, ◌||◌, Some, option_map, find, is_some}
use Rattle.std.specs.Prelude.{Result, Ok, Err, OnOk, OnErr}
use mathlib.Core.Bool.{true≢false}
use Rattle.std.specs.Ordering.{match_ordering}
use Rattle.std.specs.List.{AllByRecursion, list_any}
use Rattle.std.specs.List.Sorted.{IsStrictlySortedBy}
use Rattle.std.specs.BTreeSet.{insert_key, replace_key}
use Rattle.std.specs.BTreeMap.{is_at}
use Rattle.std.specs.Set.{remove_key}
use Rattle.qe_mem.specs.Keys.{keyed_cmp, row_order, stands_at, under}
use Rattle.qe_mem.specs.Listings.{rows_in, AreKeyed}
use Rattle.qe_mem.specs.declared.keyed.Columns.{Columns}
use Rattle.qe_mem.specs.declared.keyed.Keyed.{Keyed}

-- what stands at a place
module _ (cs : Columns) (k : Keyed) where
  same_place : (y : Keyed) → y.columns ≡ cs → is_eq (keyed_cmp k y) ≡ stands_at cs k y.row
  same_place y is = ap (λ (c : Columns). is_eq (keyed_cmp k (under c y.row))) is

  pub keyed_remove : (keys : List Keyed) → AreKeyed cs keys → AreKeyed cs (remove_key (is_at (keyed_cmp k)) keys)
  keyed_remove [] are = tt
  keyed_remove (y ∷ keys) are = elim (is_eq (keyed_cmp k y)) as (λ b. AreKeyed cs (cond b keys (y ∷ remove_key (is_at (keyed_cmp k)) keys))) [
    | true ↦ are.1
    | false ↦ (are.0, keyed_remove keys are.1)
  ]

  pub rows_remove : (keys : List Keyed) → AreKeyed cs keys → rows_in (remove_key (is_at (keyed_cmp k)) keys) ≡ remove_key (stands_at cs k) (rows_in keys)
  rows_remove [] are = refl
  rows_remove (y ∷ keys) are =
      by_test (is_eq (keyed_cmp k y)) (rows_remove keys are.1) ∙ ap (λ b. cond b (rows_in keys) (y.row ∷ remove_key (stands_at cs k) (rows_in keys))) (same_place y are.0)
    where
      by_test : (b : Bool) → rows_in (remove_key (is_at (keyed_cmp k)) keys) ≡ remove_key (stands_at cs k) (rows_in keys)
          → rows_in (cond b keys (y ∷ remove_key (is_at (keyed_cmp k)) keys)) ≡ cond b (rows_in keys) (y.row ∷ remove_key (stands_at cs k) (rows_in keys))
      by_test true later = refl
      by_test false later = ap (λ l. y.row ∷ l) later

  pub rows_find : (keys : List Keyed) → AreKeyed cs keys → option_map (λ key. key.row) (find (is_at (keyed_cmp k)) keys) ≡ find (stands_at cs k) (rows_in keys)
  rows_find [] are = refl
  rows_find (y ∷ keys) are =
      by_test (is_eq (keyed_cmp k y)) (rows_find keys are.1) ∙ ap (λ b. cond b (Some y.row) (find (stands_at cs k) (rows_in keys))) (same_place y are.0)
    where
      by_test : (b : Bool) → option_map (λ key. key.row) (find (is_at (keyed_cmp k)) keys) ≡ find (stands_at cs k) (rows_in keys)
          → option_map (λ key. key.row) (cond b (Some y) (find (is_at (keyed_cmp k)) keys)) ≡ cond b (Some y.row) (find (stands_at cs k) (rows_in keys))
      by_test true later = refl
      by_test false later = later

  pub rows_any : (keys : List Keyed) → AreKeyed cs keys → list_any (is_at (keyed_cmp k)) keys ≡ is_some (find (stands_at cs k) (rows_in keys))
  rows_any [] are = refl
  rows_any (y ∷ keys) are =
      by_test (is_eq (keyed_cmp k y)) (rows_any keys are.1) ∙ ap (λ b. is_some (cond b (Some y.row) (find (stands_at cs k) (rows_in keys)))) (same_place y are.0)
    where
      by_test : (b : Bool) → list_any (is_at (keyed_cmp k)) keys ≡ is_some (find (stands_at cs k) (rows_in keys)) → b || list_any (is_at (keyed_cmp k)) keys ≡ is_some (cond b (Some y.row) (find (stands_at cs k) (rows_in keys)))
      by_test true later = refl
      by_test false later = later

-- what comes under the columns
module _ (cs : Columns) (k : Keyed) (under_them : k.columns ≡ cs) where
  same_order : (y : Keyed) → y.columns ≡ cs → keyed_cmp k y ≡ row_order cs k.row y.row
  same_order y is = rw (under_them, is) refl

  pub keyed_insert : (keys : List Keyed) → AreKeyed cs keys → AreKeyed cs (insert_key keyed_cmp keys k)
  keyed_insert [] are = (under_them, tt)
  keyed_insert (y ∷ keys) are = by_order (keyed_cmp k y) (keyed_insert keys are.1)
    where
      by_order : (o : Ordering) → AreKeyed cs (insert_key keyed_cmp keys k) → AreKeyed cs (match_ordering o (k ∷ y ∷ keys) (y ∷ keys) (y ∷ insert_key keyed_cmp keys k))
      by_order Less later = (under_them, are)
      by_order Equal later = are
      by_order Greater later = (are.0, later)

  pub rows_insert : (keys : List Keyed) → AreKeyed cs keys → rows_in (insert_key keyed_cmp keys k) ≡ insert_key (row_order cs) (rows_in keys) k.row
  rows_insert [] are = refl
  rows_insert (y ∷ keys) are =
      by_order (keyed_cmp k y) (rows_insert keys are.1) ∙ ap (λ o. match_ordering o (k.row ∷ y.row ∷ rows_in keys) (y.row ∷ rows_in keys) (y.row ∷ insert_key (row_order cs) (rows_in keys) k.row)) (same_order y are.0)
    where
      by_order : (o : Ordering) → rows_in (insert_key keyed_cmp keys k) ≡ insert_key (row_order cs) (rows_in keys) k.row
          → rows_in (match_ordering o (k ∷ y ∷ keys) (y ∷ keys) (y ∷ insert_key keyed_cmp keys k)) ≡ match_ordering o (k.row ∷ y.row ∷ rows_in keys) (y.row ∷ rows_in keys) (y.row ∷ insert_key (row_order cs) (rows_in keys) k.row)
      by_order Less later = refl
      by_order Equal later = refl
      by_order Greater later = ap (λ l. y.row ∷ l) later

  pub keyed_replace : (keys : List Keyed) → AreKeyed cs keys → AreKeyed cs (replace_key keyed_cmp keys k)
  keyed_replace [] are = (under_them, tt)
  keyed_replace (y ∷ keys) are = by_order (keyed_cmp k y) (keyed_replace keys are.1)
    where
      by_order : (o : Ordering) → AreKeyed cs (replace_key keyed_cmp keys k) → AreKeyed cs (match_ordering o (k ∷ y ∷ keys) (k ∷ keys) (y ∷ replace_key keyed_cmp keys k))
      by_order Less later = (under_them, are)
      by_order Equal later = (under_them, are.1)
      by_order Greater later = (are.0, later)

  pub rows_replace : (keys : List Keyed) → AreKeyed cs keys → rows_in (replace_key keyed_cmp keys k) ≡ replace_key (row_order cs) (rows_in keys) k.row
  rows_replace [] are = refl
  rows_replace (y ∷ keys) are =
      by_order (keyed_cmp k y) (rows_replace keys are.1) ∙ ap (λ o. match_ordering o (k.row ∷ y.row ∷ rows_in keys) (k.row ∷ rows_in keys) (y.row ∷ replace_key (row_order cs) (rows_in keys) k.row)) (same_order y are.0)
    where
      by_order : (o : Ordering) → rows_in (replace_key keyed_cmp keys k) ≡ replace_key (row_order cs) (rows_in keys) k.row
          → rows_in (match_ordering o (k ∷ y ∷ keys) (k ∷ keys) (y ∷ replace_key keyed_cmp keys k)) ≡ match_ordering o (k.row ∷ y.row ∷ rows_in keys) (k.row ∷ rows_in keys) (y.row ∷ replace_key (row_order cs) (rows_in keys) k.row)
      by_order Less later = refl
      by_order Equal later = refl
      by_order Greater later = ap (λ l. y.row ∷ l) later

  rows_above : (keys : List Keyed) → AreKeyed cs keys → AllByRecursion (λ y. keyed_cmp k y ≡ Less) keys → AllByRecursion (λ y. row_order cs k.row y ≡ Less) (rows_in keys)
  rows_above [] are above = tt
  rows_above (y ∷ keys) are above = (sym (same_order y are.0) ∙ above.0, rows_above keys are.1 above.1)

pub rows_sorted : (cs : Columns) (keys : List Keyed) → AreKeyed cs keys → IsStrictlySortedBy keyed_cmp keys → IsStrictlySortedBy (row_order cs) (rows_in keys)
unfolding IsStrictlySortedBy
rows_sorted cs [] are sorted = tt
rows_sorted cs (k ∷ keys) are sorted = (rows_above cs k are.0 keys are.1 sorted.0, rows_sorted cs keys are.1 sorted.1)

-- what can't be refused is done
pub sure : {T E P : Type 0} (r : Result T E) (b : Bool) → OnOk r P → OnErr r (b ≡ false) → b ≡ true → P
sure (Ok x) b ok err is = ok
sure (Err e) b ok err is = absurd (true≢false (sym is ∙ err))
