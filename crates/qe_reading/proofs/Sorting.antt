-- Sorting rows by a total order.
use Rattle.std.proofs.Common.{◌≡◌, ℕ, suc, ◌+◌, ◌<◌, List, [], ◌∷◌, Bool, true, false, not, cond, filter, refl, sym, ap, ◌∙◌, subst, arith}
use Rattle.std.proofs.lemmas.Bool.{true≢false, and_from, and_parts, cond-true, not-true}
use Rattle.std.proofs.lemmas.List.Elements.{All-from_recursion, recursion_from_All}
use Rattle.std.proofs.lemmas.List.Kept.{AllPairs-cons}
use Rattle.std.proofs.lemmas.List.Sorted.{IsPermutation-refl, IsPermutation-cons, IsPermutation-trans, IsPermutation-middle, sorted_far, ranks_by}
use Rattle.std.specs.Cmp.{IsTotalOrder, upto, tied_itself}
use Rattle.std.specs.List.{AllByRecursion, AllPairs, slice_index_or}
use Rattle.std.specs.List.Sorted.{IsPermutation, IsSorted, IsStable, IsStrictlySortedBy, ties}
use Rattle.std.specs.Ordering.{is_lt, is_gt, is_eq, ordering_reverse}
use Rattle.std.specs.declared.cmp.Ordering.{Ordering}
use Rattle.std.specs.declared.cmp.Ordering.TheVariants.{Less, Equal, Greater}
use Rattle.qe_base.specs.declared.value.Row.{Row}
use Rattle.qe_reading.specs.Order.{behind, placed_by, sorted_by}

-- ---- the three answers

below_from_above : (r : Ordering) → is_gt r ≡ true → ordering_reverse r ≡ Less
below_from_above Less e = absurd (true≢false (sym e))
below_from_above Equal e = absurd (true≢false (sym e))
below_from_above Greater e = refl

not_above : (r : Ordering) → r ≡ Less → is_gt r ≡ false
not_above r e = ap is_gt e

less_if : (r : Ordering) → is_gt r ≡ false → is_eq r ≡ false → r ≡ Less
less_if Less e d = refl
less_if Equal e d = absurd (true≢false d)
less_if Greater e d = absurd (true≢false e)

level_if : (r : Ordering) → is_gt r ≡ false → is_gt (ordering_reverse r) ≡ false → r ≡ Equal
level_if Less e d = absurd (true≢false d)
level_if Equal e d = refl
level_if Greater e d = absurd (true≢false e)

level_unless : (r : Ordering) → is_lt r ≡ false → is_lt (ordering_reverse r) ≡ false → r ≡ Equal
level_unless Less e d = absurd (true≢false e)
level_unless Equal e d = refl
level_unless Greater e d = absurd (true≢false d)

turned_lt : (r : Ordering) → is_gt r ≡ false → is_lt (ordering_reverse r) ≡ false
turned_lt Less e = refl
turned_lt Equal e = refl
turned_lt Greater e = absurd (true≢false e)

turned_gt : (r : Ordering) → is_lt r ≡ false → is_gt (ordering_reverse r) ≡ false
turned_gt Less e = absurd (true≢false e)
turned_gt Equal e = refl
turned_gt Greater e = refl

-- ---- lists

abbrev head_or : Row → List Row → Row
head_or row [] = row
head_or row (first ∷ rest) = first

abbrev rest_of : List Row → List Row
rest_of [] = []
rest_of (first ∷ rest) = rest

abbrev is_none : List Row → Bool
is_none [] = true
is_none (first ∷ rest) = false

first_same : {a b : Row} {xs ys : List Row} → a ∷ xs ≡ b ∷ ys → a ≡ b
first_same {a} e = ap (head_or a) e

rest_same : {a b : Row} {xs ys : List Row} → a ∷ xs ≡ b ∷ ys → xs ≡ ys
rest_same e = ap rest_of e

no_row : {a : Row} {xs : List Row} → a ∷ xs ≡ [] → ⊥
no_row e = true≢false (sym (ap is_none e))

unkept : (a b : Bool) (x y : Row) (xs ys : List Row) → a ≡ b → cond a (x ∷ xs) xs ≡ cond b (y ∷ ys) ys → xs ≡ ys
unkept true true x y xs ys same e = rest_same e
unkept true false x y xs ys same e = absurd (true≢false same)
unkept false true x y xs ys same e = absurd (true≢false (sym same))
unkept false false x y xs ys same e = e

-- ---- a list with a row at its place

pub all_then : {P Q : Row → Type 0} → ((row : Row) → P row → Q row) → (rows : List Row) → AllByRecursion P rows → AllByRecursion Q rows
all_then step [] all = tt
all_then step (row ∷ rows) all = (step row all.0, all_then step rows all.1)

module _ (R : Row → Row → Ordering) where
  pub all_placed : (P : Row → Type 0) (row : Row) (rows : List Row) → P row → AllByRecursion P rows → AllByRecursion P (placed_by R row rows)
  all_placed P row [] p all = (p, tt)
  all_placed P row (other ∷ rest) p all = by (is_gt (R row other)) (all_placed P row rest p all.1)
    where
      by : (above : Bool) → AllByRecursion P (placed_by R row rest) → AllByRecursion P (behind above row rest other (placed_by R row rest))
      by true later = (all.0, later)
      by false later = (p, all)

  pub all_sorted : (P : Row → Type 0) (rows : List Row) → AllByRecursion P rows → AllByRecursion P (sorted_by R rows)
  all_sorted P [] all = tt
  all_sorted P (row ∷ rows) all = all_placed P row (sorted_by R rows) all.0 (all_sorted P rows all.1)

  same_placed : (row : Row) (rows : List Row) → IsPermutation (row ∷ rows) (placed_by R row rows)
  same_placed row [] = IsPermutation-refl (row ∷ [])
  same_placed row (other ∷ rest) = by (is_gt (R row other)) (same_placed row rest)
    where
      by : (above : Bool) → IsPermutation (row ∷ rest) (placed_by R row rest) → IsPermutation (row ∷ other ∷ rest) (behind above row rest other (placed_by R row rest))
      by true later = IsPermutation-trans (row ∷ other ∷ rest) (other ∷ row ∷ rest) _ (IsPermutation-middle (row ∷ []) other rest) (IsPermutation-cons other (row ∷ rest) (placed_by R row rest) later)
      by false later = IsPermutation-refl (row ∷ other ∷ rest)

  pub same_rows : (rows : List Row) → IsPermutation rows (sorted_by R rows)
  same_rows [] = IsPermutation-refl []
  same_rows (row ∷ rows) = IsPermutation-trans (row ∷ rows) (row ∷ sorted_by R rows) _ (IsPermutation-cons row rows (sorted_by R rows) (same_rows rows)) (same_placed row (sorted_by R rows))

  -- no row stands before one in front of it
  abbrev pub Rising : List Row → Type 0
  Rising [] = Unit {0}
  Rising (row ∷ rows) = AllByRecursion (λ later. is_gt (R row later) ≡ false) rows × Rising rows

  -- no two rows tie
  abbrev pub AreApart : List Row → Type 0
  AreApart [] = Unit {0}
  AreApart (row ∷ rows) = AllByRecursion (λ later. is_eq (R row later) ≡ false) rows × AreApart rows

  module _ (o : IsTotalOrder R) where
    rising_placed : (row : Row) (rows : List Row) → Rising rows → Rising (placed_by R row rows)
    rising_placed row [] rising = (tt, tt)
    rising_placed row (other ∷ rest) rising = by (is_gt (R row other)) refl (rising_placed row rest rising.1)
      where
        by : (above : Bool) → is_gt (R row other) ≡ above → Rising (placed_by R row rest) → Rising (behind above row rest other (placed_by R row rest))
        by true e later = (all_placed (λ after. is_gt (R other after) ≡ false) row rest (not_above (R other row) (o.antisymm other row ∙ below_from_above (R row other) e)) rising.0, later)
        by false e later = ((e, all_then (λ after h. upto o row other after e h) rest rising.0), rising)

    rising_sorted : (rows : List Row) → Rising (sorted_by R rows)
    rising_sorted [] = tt
    rising_sorted (row ∷ rows) = rising_placed row (sorted_by R rows) (rising_sorted rows)

    pairs_in : (rows : List Row) → Rising rows → AllPairs (λ a b. is_lt (R b a) ≡ false) rows
    pairs_in [] rising = λ i j d l k. absurd (not_below j k)
      where
        not_below : (j : ℕ) → j < 0 → ⊥
        not_below j k = omega arith
    pairs_in (row ∷ rows) rising =
        AllPairs-cons (λ a b. is_lt (R b a) ≡ false) row rows (All-from_recursion (λ later. is_lt (R later row) ≡ false) rows (all_then (λ later h. ap is_lt (o.antisymm later row) ∙ turned_lt (R row later) h) rows rising.0)) (pairs_in rows rising.1)

    pub rising_is_sorted : (rows : List Row) → Rising rows → IsSorted R rows
    rising_is_sorted rows rising = λ k d low high. pairs_in rows rising k (k + 1) d (omega arith) high

    pub is_sorted : (rows : List Row) → IsSorted R (sorted_by R rows)
    is_sorted rows = rising_is_sorted (sorted_by R rows) (rising_sorted rows)

    -- ---- rows that tie stay as they were

    abbrev tie : Row → Row → Bool
    tie = ties (λ a b. is_lt (R a b))

    tied : (a b : Row) → tie a b ≡ true → R a b ≡ Equal
    tied a b e =
        let parts = and_parts (not (is_lt (R a b))) (not (is_lt (R b a))) e in
        level_unless (R a b) (not-true _ parts.0) (ap is_lt (sym (o.antisymm b a)) ∙ not-true _ parts.1)

    tie_if : (a b : Row) → R a b ≡ Equal → tie a b ≡ true
    tie_if a b e = and_from _ _ (ap (λ r. not (is_lt r)) e) (ap (λ r. not (is_lt r)) (o.antisymm b a ∙ ap ordering_reverse e))

    apart : (z row other : Row) → is_gt (R row other) ≡ true → tie z row ≡ true → tie z other ≡ true → ⊥
    apart z row other above t u = true≢false (sym above ∙ ap is_gt (sym (o.congr z row other (tied z row t)) ∙ tied z other u))

    swapped : (a b : Bool) (row other : Row) (rows : List Row) → (a ≡ true → b ≡ true → ⊥)
        → cond b (other ∷ cond a (row ∷ rows) rows) (cond a (row ∷ rows) rows) ≡ cond a (row ∷ cond b (other ∷ rows) rows) (cond b (other ∷ rows) rows)
    swapped true true row other rows never = absurd (never refl refl)
    swapped true false row other rows never = refl
    swapped false true row other rows never = refl
    swapped false false row other rows never = refl

    stable_placed : (z row : Row) (rows : List Row) → filter (tie z) (placed_by R row rows) ≡ filter (tie z) (row ∷ rows)
    stable_placed z row [] = refl
    stable_placed z row (other ∷ rest) = by (is_gt (R row other)) refl (stable_placed z row rest)
      where
        by : (above : Bool) → is_gt (R row other) ≡ above → filter (tie z) (placed_by R row rest) ≡ filter (tie z) (row ∷ rest)
            → filter (tie z) (behind above row rest other (placed_by R row rest)) ≡ filter (tie z) (row ∷ other ∷ rest)
        by true e later = ap (λ kept. cond (tie z other) (other ∷ kept) kept) later ∙ swapped (tie z row) (tie z other) row other (filter (tie z) rest) (apart z row other e)
        by false e later = refl

    pub is_stable : (rows : List Row) → IsStable R rows (sorted_by R rows)
    is_stable [] = λ z. refl
    is_stable (row ∷ rows) = λ z. stable_placed z row (sorted_by R rows) ∙ ap (λ kept. cond (tie z row) (row ∷ kept) kept) (is_stable rows z)

    -- ---- no other list is sorted and stable

    all_rising : (row : Row) (rows : List Row) → IsSorted R (row ∷ rows) → AllByRecursion (λ later. is_gt (R row later) ≡ false) rows
    all_rising row rows sorted =
        recursion_from_All (λ later. is_gt (R row later) ≡ false) rows
        (λ k d low. ap is_gt (o.antisymm row (slice_index_or rows k d)) ∙ turned_gt (R (slice_index_or rows k d) row) (sorted_far (λ a b. is_lt (R a b)) (ranks_by o (λ a. a)) (row ∷ rows) sorted 0 (suc k) d (omega arith) (omega arith)))

    rising_rest : (row : Row) (rows : List Row) → IsSorted R (row ∷ rows) → IsSorted R rows
    rising_rest row rows sorted = λ k d low high.
        let next : suc k + 1 ≡ suc (k + 1) = omega arith in
        subst (λ n. is_lt (R (slice_index_or (row ∷ rows) n d) (slice_index_or rows k d)) ≡ false) next (sorted (suc k) d (omega arith) (omega arith))

    -- what holds of all rows holds of the first one that is kept
    first_kept : (P : Row → Type 0) (test : Row → Bool) (row : Row) (kept rows : List Row) → row ∷ kept ≡ filter test rows → AllByRecursion P rows → P row
    first_kept P test row kept [] e all = absurd (no_row e)
    first_kept P test row kept (other ∷ rows) e all = by (test other) e (λ same. first_kept P test row kept rows same all.1)
      where
        by : (here : Bool) → row ∷ kept ≡ cond here (other ∷ filter test rows) (filter test rows) → (row ∷ kept ≡ filter test rows → P row) → P row
        by true same later = subst P (sym (first_same same)) all.0
        by false same later = later same

    itself : (row : Row) (rows : List Row) → row ∷ filter (tie row) rows ≡ filter (tie row) (row ∷ rows)
    itself row rows = sym (cond-true (tie row row) (row ∷ filter (tie row) rows) (filter (tie row) rows) (tie_if row row (tied_itself o row)))

    -- the first row of a sorted list is not above a row that is kept of it
    not_above_kept : (row other : Row) (kept rows : List Row) (test : Row → Bool) → IsSorted R (row ∷ rows) → other ∷ kept ≡ filter test (row ∷ rows) → is_gt (R row other) ≡ false
    not_above_kept row other kept rows test sorted e = first_kept (λ later. is_gt (R row later) ≡ false) test other kept (row ∷ rows) e (ap is_gt (tied_itself o row), all_rising row rows sorted)

    pub only_sorted : (rows found : List Row) → IsSorted R rows → IsSorted R found → IsStable R rows found → found ≡ rows
    only_sorted [] [] sorted rising stable = refl
    only_sorted [] (b ∷ bs) sorted rising stable = absurd (no_row (itself b bs ∙ stable b))
    only_sorted (a ∷ rows) [] sorted rising stable = absurd (no_row (itself a rows ∙ sym (stable a)))
    only_sorted (a ∷ rows) (b ∷ bs) sorted rising stable =
        let at_a : a ∷ filter (tie a) rows ≡ filter (tie a) (b ∷ bs) = itself a rows ∙ sym (stable a) in
        let at_b : b ∷ filter (tie b) bs ≡ filter (tie b) (a ∷ rows) = itself b bs ∙ stable b in
        let level : R a b ≡ Equal = level_if (R a b) (not_above_kept a b _ rows (tie b) sorted at_b) (ap is_gt (sym (o.antisymm b a)) ∙ not_above_kept b a _ bs (tie a) rising at_a) in
        let same : a ≡ b = first_same (at_a ∙ cond-true (tie a b) (b ∷ filter (tie a) bs) (filter (tie a) bs) (tie_if a b level)) in
        let rest : bs ≡ rows = only_sorted rows bs (rising_rest a rows sorted) (rising_rest b bs rising) (λ z. unkept (tie z b) (tie z a) b a (filter (tie z) bs) (filter (tie z) rows) (ap (tie z) (sym same)) (stable z)) in
        λ i. sym same i ∷ rest i

    -- ---- rows of which no two tie

    strict_placed : (row : Row) (rows : List Row) → AllByRecursion (λ later. is_eq (R row later) ≡ false) rows → IsStrictlySortedBy R rows → IsStrictlySortedBy R (placed_by R row rows)
    unfolding IsStrictlySortedBy
    strict_placed row [] level strict = (tt, tt)
    strict_placed row (other ∷ rest) level strict = by (is_gt (R row other)) refl (strict_placed row rest level.1 strict.1)
      where
        by : (above : Bool) → is_gt (R row other) ≡ above → IsStrictlySortedBy R (placed_by R row rest) → IsStrictlySortedBy R (behind above row rest other (placed_by R row rest))
        by true e later = (all_placed (λ after. R other after ≡ Less) row rest (o.antisymm other row ∙ below_from_above (R row other) e) strict.0, later)
        by false e later =
            let less = less_if (R row other) e level.0 in
            ((less, all_then (λ after h. o.trans row other after less h) rest strict.0), strict)

    pub is_strict : (rows : List Row) → AreApart rows → IsStrictlySortedBy R (sorted_by R rows)
    unfolding IsStrictlySortedBy
    is_strict [] level = tt
    is_strict (row ∷ rows) level = strict_placed row (sorted_by R rows) (all_sorted (λ later. is_eq (R row later) ≡ false) rows level.0) (is_strict rows level.1)
