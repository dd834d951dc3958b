-- What stands at a place of rows that are in order, when rows come and go; and when two lists of rows are one.
use Rattle.std.proofs.Common.{◌≡◌, List, [], ◌∷◌, ◌++◌, filter, find, Option, Some, None, Bool, true, false, cond, refl, sym, ap, subst, ◌∙◌, Ordering, Less, Equal, Greater, is_eq, not}
use mathlib.Core.Bool.{true≢false}
use Rattle.std.specs.List.{AllByRecursion}
use Rattle.std.specs.List.Sorted.{IsStrictlySortedBy}
use Rattle.std.specs.Ordering.{is_lt, is_gt, match_ordering, ordering_reverse}
use Rattle.std.specs.Cmp.{IsTotalOrder}
use Rattle.std.specs.BTreeSet.{insert_key, replace_key}
use Rattle.std.specs.Set.{remove_key}

pub eq_of : (o : Ordering) → is_eq o ≡ true → o ≡ Equal
eq_of Equal is = refl
eq_of Less is = cc
eq_of Greater is = cc

pub all_mapped : {X : Type 0} (P Q : X → Type 0) → ((x : X) → P x → Q x) → (xs : List X) → AllByRecursion P xs → AllByRecursion Q xs
all_mapped P Q leads [] all = tt
all_mapped P Q leads (x ∷ xs) all = (leads x all.0, all_mapped P Q leads xs all.1)

-- what is found, if it passes a test
abbrev pub keep : {X : Type 0} → (X → Bool) → Option X → Option X
keep q None = None
keep q (Some x) = cond (q x) (Some x) None

module _ {K : Type 0} {R : K → K → Ordering} (total : IsTotalOrder R) where
  pub itself : (k : K) → R k k ≡ Equal
  itself k = alike (R k k) (total.antisymm k k)
    where
      alike : (o : Ordering) → o ≡ ordering_reverse o → o ≡ Equal
      alike Less is = cc
      alike Equal is = refl
      alike Greater is = cc

  pub turned : (k y : K) (o : Ordering) → R k y ≡ o → R y k ≡ ordering_reverse o
  turned k y o is = total.antisymm y k ∙ ap ordering_reverse is

  -- two that are at a third are at each other
  pub both_at : (p x y : K) → R p x ≡ Equal → R p y ≡ Equal → R x y ≡ Equal
  both_at p x y at also = sym (total.congr p x y at) ∙ also

module _ {K X : Type 0} {R : K → K → Ordering} (total : IsTotalOrder R) (e : X → K) where
  abbrev order : X → X → Ordering
  order x y = R (e x) (e y)

  abbrev at : K → X → Bool
  at p x = is_eq (R p (e x))

  -- ---- rows in order

  pub none_above : (p : K) (xs : List X) → AllByRecursion (λ y. R p (e y) ≡ Less) xs → find (at p) xs ≡ None
  none_above p [] above = refl
  none_above p (x ∷ xs) above = rw (above.0) (none_above p xs above.1)

  above_same : (p : K) (y : X) (ys : List X) → R p (e y) ≡ Equal → AllByRecursion (λ z. order y z ≡ Less) ys → AllByRecursion (λ z. R p (e z) ≡ Less) ys
  above_same p y ys same above = all_mapped (λ z. order y z ≡ Less) (λ z. R p (e z) ≡ Less) (λ z is. total.congr p (e y) (e z) same ∙ is) ys above

  above_less : (p : K) (y : X) (ys : List X) → R p (e y) ≡ Less → AllByRecursion (λ z. order y z ≡ Less) ys → AllByRecursion (λ z. R p (e z) ≡ Less) ys
  above_less p y ys less above = all_mapped (λ z. order y z ≡ Less) (λ z. R p (e z) ≡ Less) (λ z is. total.trans p (e y) (e z) less is) ys above

  all_inserted : (P : X → Type 0) (x : X) (xs : List X) → P x → AllByRecursion P xs → AllByRecursion P (insert_key order xs x)
  all_inserted P x [] one all = (one, tt)
  all_inserted P x (y ∷ ys) one all = by_order (order x y) (all_inserted P x ys one all.1)
    where
      by_order : (o : Ordering) → AllByRecursion P (insert_key order ys x) → AllByRecursion P (match_ordering o (x ∷ y ∷ ys) (y ∷ ys) (y ∷ insert_key order ys x))
      by_order Less later = (one, all)
      by_order Equal later = all
      by_order Greater later = (all.0, later)

  all_replaced : (P : X → Type 0) (x : X) (xs : List X) → P x → AllByRecursion P xs → AllByRecursion P (replace_key order xs x)
  all_replaced P x [] one all = (one, tt)
  all_replaced P x (y ∷ ys) one all = by_order (order x y) (all_replaced P x ys one all.1)
    where
      by_order : (o : Ordering) → AllByRecursion P (replace_key order ys x) → AllByRecursion P (match_ordering o (x ∷ y ∷ ys) (x ∷ ys) (y ∷ replace_key order ys x))
      by_order Less later = (one, all)
      by_order Equal later = (one, all.1)
      by_order Greater later = (all.0, later)

  all_removed : (t : X → Bool) (P : X → Type 0) (xs : List X) → AllByRecursion P xs → AllByRecursion P (remove_key t xs)
  all_removed t P [] all = tt
  all_removed t P (x ∷ xs) all = by_test (t x) (all_removed t P xs all.1)
    where
      by_test : (b : Bool) → AllByRecursion P (remove_key t xs) → AllByRecursion P (cond b xs (x ∷ remove_key t xs))
      by_test true later = all.1
      by_test false later = (all.0, later)

  pub sorted-insert : (x : X) (xs : List X) → IsStrictlySortedBy order xs → IsStrictlySortedBy order (insert_key order xs x)
  unfolding IsStrictlySortedBy
  sorted-insert x [] sorted = (tt, tt)
  sorted-insert x (y ∷ ys) sorted = by_order (order x y) refl (sorted-insert x ys sorted.1)
    where
      by_order : (o : Ordering) → order x y ≡ o → IsStrictlySortedBy order (insert_key order ys x) → IsStrictlySortedBy order (match_ordering o (x ∷ y ∷ ys) (y ∷ ys) (y ∷ insert_key order ys x))
      by_order Less is later = ((is, above_less (e x) y ys is sorted.0), sorted)
      by_order Equal is later = sorted
      by_order Greater is later = (all_inserted (λ z. order y z ≡ Less) x ys (turned total (e x) (e y) Greater is) sorted.0, later)

  pub sorted-replace : (x : X) (xs : List X) → IsStrictlySortedBy order xs → IsStrictlySortedBy order (replace_key order xs x)
  unfolding IsStrictlySortedBy
  sorted-replace x [] sorted = (tt, tt)
  sorted-replace x (y ∷ ys) sorted = by_order (order x y) refl (sorted-replace x ys sorted.1)
    where
      by_order : (o : Ordering) → order x y ≡ o → IsStrictlySortedBy order (replace_key order ys x) → IsStrictlySortedBy order (match_ordering o (x ∷ y ∷ ys) (x ∷ ys) (y ∷ replace_key order ys x))
      by_order Less is later = ((is, above_less (e x) y ys is sorted.0), sorted)
      by_order Equal is later = (above_same (e x) y ys is sorted.0, sorted.1)
      by_order Greater is later = (all_replaced (λ z. order y z ≡ Less) x ys (turned total (e x) (e y) Greater is) sorted.0, later)

  pub sorted-remove : (t : X → Bool) (xs : List X) → IsStrictlySortedBy order xs → IsStrictlySortedBy order (remove_key t xs)
  unfolding IsStrictlySortedBy
  sorted-remove t [] sorted = tt
  sorted-remove t (x ∷ xs) sorted = by_test (t x) (sorted-remove t xs sorted.1)
    where
      by_test : (b : Bool) → IsStrictlySortedBy order (remove_key t xs) → IsStrictlySortedBy order (cond b xs (x ∷ remove_key t xs))
      by_test true later = sorted.1
      by_test false later = (all_removed t (λ y. order x y ≡ Less) xs sorted.0, later)

  -- ---- what stands at a place

  apart : (p : K) (x y : X) → order x y ≡ Greater → at p x ≡ true → at p y ≡ true → ⊥
  apart p x y is at_x at_y = true≢false (sym (ap is_eq (both_at total p (e x) (e y) (eq_of _ at_x) (eq_of _ at_y))) ∙ ap is_eq is)

  -- two tests that don't pass at once can be asked in either order
  swap_tests : (b d : Bool) (x y : X) (o : Option X) → (b ≡ true → d ≡ true → ⊥) → cond d (Some y) (cond b (Some x) o) ≡ cond b (Some x) (cond d (Some y) o)
  swap_tests true true x y o not_both = absurd (not_both refl refl)
  swap_tests true false x y o not_both = refl
  swap_tests false d x y o not_both = refl

  pub find-insert : (p : K) (x : X) (xs : List X) → find (at (e x)) xs ≡ None → find (at p) (insert_key order xs x) ≡ cond (at p x) (Some x) (find (at p) xs)
  find-insert p x [] none = refl
  find-insert p x (y ∷ ys) none = by_order (order x y) refl none (find-insert p x ys)
    where
      by_order : (o : Ordering) → order x y ≡ o → cond (is_eq o) (Some y) (find (at (e x)) ys) ≡ None → (find (at (e x)) ys ≡ None → find (at p) (insert_key order ys x) ≡ cond (at p x) (Some x) (find (at p) ys))
          → find (at p) (match_ordering o (x ∷ y ∷ ys) (y ∷ ys) (y ∷ insert_key order ys x)) ≡ cond (at p x) (Some x) (find (at p) (y ∷ ys))
      by_order Less is none later = refl
      by_order Equal is none later = cc
      by_order Greater is none later = ap (cond (at p y) (Some y)) (later none) ∙ swap_tests (at p x) (at p y) x y (find (at p) ys) (apart p x y is)

  pub find-replace : (p : K) (x : X) (xs : List X) → find (at p) (replace_key order xs x) ≡ cond (at p x) (Some x) (find (at p) xs)
  find-replace p x [] = refl
  find-replace p x (y ∷ ys) = by_order (order x y) refl (find-replace p x ys)
    where
      here : (b : Bool) (o : Option X) → cond b (Some x) o ≡ cond b (Some x) (cond b (Some y) o)
      here true o = refl
      here false o = refl

      same_test : order x y ≡ Equal → at p x ≡ at p y
      same_test is = ap is_eq (total.antisymm p (e x) ∙ ap ordering_reverse (total.congr (e x) (e y) p is) ∙ sym (total.antisymm p (e y)))

      by_order : (o : Ordering) → order x y ≡ o → find (at p) (replace_key order ys x) ≡ cond (at p x) (Some x) (find (at p) ys)
          → find (at p) (match_ordering o (x ∷ y ∷ ys) (x ∷ ys) (y ∷ replace_key order ys x)) ≡ cond (at p x) (Some x) (find (at p) (y ∷ ys))
      by_order Less is later = refl
      by_order Equal is later = here (at p x) (find (at p) ys) ∙ ap (λ b. cond (at p x) (Some x) (cond b (Some y) (find (at p) ys))) (same_test is)
      by_order Greater is later = ap (cond (at p y) (Some y)) later ∙ swap_tests (at p x) (at p y) x y (find (at p) ys) (apart p x y is)

  pub find-remove : (p q : K) (xs : List X) → IsStrictlySortedBy order xs → find (at p) (remove_key (at q) xs) ≡ cond (is_eq (R q p)) None (find (at p) xs)
  unfolding IsStrictlySortedBy
  find-remove p q [] sorted = either (is_eq (R q p))
    where
      either : (b : Bool) → (let o : Option X = None in o) ≡ cond b None None
      either true = refl
      either false = refl
  find-remove p q (y ∷ ys) sorted = by_tests (is_eq (R q p)) (at q y) refl refl (find-remove p q ys sorted.1)
    where
      same_test : R q p ≡ Equal → at p y ≡ at q y
      same_test is = sym (ap is_eq (total.congr q p (e y) is))

      other_test : is_eq (R q p) ≡ false → at q y ≡ true → at p y ≡ false
      other_test not_same at_q = by_test (at p y) refl
        where
          by_test : (b : Bool) → at p y ≡ b → at p y ≡ false
          by_test false is = is
          by_test true is = absurd (true≢false (sym (ap is_eq (total.congr q (e y) p (eq_of _ at_q) ∙ turned total p (e y) Equal (eq_of _ is))) ∙ not_same))

      by_tests : (b d : Bool) → is_eq (R q p) ≡ b → at q y ≡ d → find (at p) (remove_key (at q) ys) ≡ cond b None (find (at p) ys)
          → find (at p) (cond d ys (y ∷ remove_key (at q) ys)) ≡ cond b None (find (at p) (y ∷ ys))
      by_tests true true same at_q later = none_above p ys (above_same p y ys (eq_of _ (same_test (eq_of _ same) ∙ at_q)) sorted.0)
      by_tests true false same at_q later = rw (same_test (eq_of _ same) ∙ at_q) later
      by_tests false true same at_q later = rw (other_test same at_q) refl
      by_tests false false same at_q later = ap (cond (at p y) (Some y)) later

  -- what stands at a place of some of the rows
  pub find-filter : (p : K) (q : X → Bool) (xs : List X) → IsStrictlySortedBy order xs → find (at p) (filter q xs) ≡ keep q (find (at p) xs)
  unfolding IsStrictlySortedBy
  find-filter p q [] sorted = refl
  find-filter p q (y ∷ ys) sorted = by_tests (q y) (at p y) refl refl (find-filter p q ys sorted.1)
    where
      by_tests : (b d : Bool) → q y ≡ b → at p y ≡ d → find (at p) (filter q ys) ≡ keep q (find (at p) ys)
          → find (at p) (cond b (y ∷ filter q ys) (filter q ys)) ≡ keep q (cond d (Some y) (find (at p) ys))
      by_tests true true is_b is_d later = rw (is_d, is_b) refl
      by_tests true false is_b is_d later = rw is_d later
      by_tests false true is_b is_d later = later ∙ ap (keep q) (none_above p ys (above_same p y ys (eq_of _ is_d) sorted.0)) ∙ rw is_b refl
      by_tests false false is_b is_d later = later

  -- what is found stands there
  pub found_stands : (p : K) (x : X) (xs : List X) → find (at p) xs ≡ Some x → at p x ≡ true
  found_stands p x [] found = cc
  found_stands p x (y ∷ ys) found = by_test (at p y) refl found (found_stands p x ys)
    where
      by_test : (b : Bool) → at p y ≡ b → cond b (Some y) (find (at p) ys) ≡ Some x → (find (at p) ys ≡ Some x → at p x ≡ true) → at p x ≡ true
      by_test true is found later = subst (λ z. at p z ≡ true) (the_one y x found) is
        where
          the_one : (a b : X) → Some a ≡ Some b → a ≡ b
          the_one a b is = cc
      by_test false is found later = later found

  -- the same is found at places that are at each other
  pub find_same : (p q : K) (xs : List X) → R p q ≡ Equal → find (at p) xs ≡ find (at q) xs
  find_same p q [] same = refl
  find_same p q (y ∷ ys) same = ap (λ b. cond b (Some y) (find (at p) ys)) (ap is_eq (total.congr p q (e y) same)) ∙ ap (cond (at q y) (Some y)) (find_same p q ys same)

  -- ---- two lists in order are one where the same stands at each place of them

  found_head : (y : X) (ys : List X) → find (at (e y)) (y ∷ ys) ≡ Some y
  found_head y ys = rw (itself total (e y)) refl

  none_below_head : (p : K) (y : X) (ys : List X) → R p (e y) ≡ Less → IsStrictlySortedBy order (y ∷ ys) → find (at p) (y ∷ ys) ≡ None
  unfolding IsStrictlySortedBy
  none_below_head p y ys less sorted = none_above p (y ∷ ys) (less, above_less p y ys less sorted.0)

  found_behind : (p : K) (y : X) (ys : List X) (o : Ordering) → R p (e y) ≡ o → IsStrictlySortedBy order (y ∷ ys) → find (at p) ys ≡ cond (is_eq o) None (find (at p) (y ∷ ys))
  unfolding IsStrictlySortedBy
  found_behind p y ys Less is sorted = rw is refl
  found_behind p y ys Equal is sorted = none_above p ys (above_same p y ys is sorted.0)
  found_behind p y ys Greater is sorted = rw is refl

  pub same_rows : (xs ys : List X) → IsStrictlySortedBy order xs → IsStrictlySortedBy order ys → ((x : X) → find (at (e x)) xs ≡ find (at (e x)) ys) → xs ≡ ys
  unfolding IsStrictlySortedBy
  same_rows [] [] s t same = refl
  same_rows [] (y ∷ ys) s t same = absurd (let h = same y ∙ found_head y ys in cc)
  same_rows (x ∷ xs) [] s t same = absurd (let h = sym (same x) ∙ found_head x xs in cc)
  same_rows (x ∷ xs) (y ∷ ys) s t same = by_order (order x y) refl (same_rows xs ys s.1 t.1)
    where
      by_order : (o : Ordering) → order x y ≡ o → (((z : X) → find (at (e z)) xs ≡ find (at (e z)) ys) → xs ≡ ys) → (let l : List X = x ∷ xs in l) ≡ y ∷ ys
      by_order Less is later = absurd (let h = sym (found_head x xs) ∙ same x ∙ none_below_head (e x) y ys is t in cc)
      by_order Greater is later = absurd (let h = sym (found_head y ys) ∙ sym (same y) ∙ none_below_head (e y) x xs (turned total (e x) (e y) Greater is) s in cc)
      by_order Equal is later =
          let one : x ≡ y = the_one (sym (found_head x xs) ∙ same x ∙ rw is refl) in
          λ i. one i ∷ later (λ z. found_behind (e z) x xs (R (e z) (e x)) refl s ∙ (λ j. cond (is_eq (R (e z) (e (one j)))) None (same z j)) ∙ sym (found_behind (e z) y ys (R (e z) (e y)) refl t)) i
        where
          the_one : Some x ≡ Some y → x ≡ y
          the_one is = cc

  -- an insertion undone
  pub undo_insert : (x : X) (xs : List X) → find (at (e x)) xs ≡ None → remove_key (at (e x)) (insert_key order xs x) ≡ xs
  undo_insert x [] none = rw (itself total (e x)) refl
  undo_insert x (y ∷ ys) none = by_order (order x y) refl none (undo_insert x ys)
    where
      by_order : (o : Ordering) → order x y ≡ o → cond (is_eq o) (Some y) (find (at (e x)) ys) ≡ None → (find (at (e x)) ys ≡ None → remove_key (at (e x)) (insert_key order ys x) ≡ ys)
          → remove_key (at (e x)) (match_ordering o (x ∷ y ∷ ys) (y ∷ ys) (y ∷ insert_key order ys x)) ≡ y ∷ ys
      by_order Less is none later = rw (itself total (e x)) refl
      by_order Equal is none later = cc
      by_order Greater is none later = rw is (ap (λ l. y ∷ l) (later none))

  none_sub : (p : K) (q : X → Bool) → ((x : X) → q x ≡ true → at p x ≡ true) → (xs : List X) → AllByRecursion (λ y. R p (e y) ≡ Less) xs → find q xs ≡ None
  none_sub p q leads [] above = refl
  none_sub p q leads (x ∷ xs) above = by_test (q x) refl (none_sub p q leads xs above.1)
    where
      by_test : (b : Bool) → q x ≡ b → find q xs ≡ None → cond b (Some x) (find q xs) ≡ None
      by_test true is later = absurd (true≢false (sym (leads x is) ∙ ap is_eq above.0))
      by_test false is later = later

  -- what passes a test that only one at a place can pass
  pub find_narrow : (p : K) (q : X → Bool) → ((x : X) → q x ≡ true → at p x ≡ true) → (xs : List X) → IsStrictlySortedBy order xs → find q xs ≡ keep q (find (at p) xs)
  unfolding IsStrictlySortedBy
  find_narrow p q leads [] sorted = refl
  find_narrow p q leads (y ∷ ys) sorted = by_tests (q y) (at p y) refl refl (find_narrow p q leads ys sorted.1)
    where
      by_tests : (b d : Bool) → q y ≡ b → at p y ≡ d → find q ys ≡ keep q (find (at p) ys) → cond b (Some y) (find q ys) ≡ keep q (cond d (Some y) (find (at p) ys))
      by_tests true true is_b is_d later = rw is_b refl
      by_tests true false is_b is_d later = absurd (true≢false (sym (leads y is_b) ∙ is_d))
      by_tests false true is_b is_d later = none_sub p q leads ys (above_same p y ys (eq_of _ is_d) sorted.0) ∙ rw is_b refl
      by_tests false false is_b is_d later = later

  -- what is found passes the test of its place
  pub found_kept : (p : K) (xs : List X) → find (at p) xs ≡ keep (at p) (find (at p) xs)
  found_kept p [] = refl
  found_kept p (y ∷ ys) = by_test (at p y) refl (found_kept p ys)
    where
      by_test : (b : Bool) → at p y ≡ b → find (at p) ys ≡ keep (at p) (find (at p) ys) → cond b (Some y) (find (at p) ys) ≡ keep (at p) (cond b (Some y) (find (at p) ys))
      by_test true is later = rw is refl
      by_test false is later = later

  -- ---- rows with one at its place, and without the one at a place, by what comes before and behind

  none_before : (x : X) (ys : List X) → AllByRecursion (λ y. order x y ≡ Less) ys → filter (λ y. is_gt (order x y)) ys ≡ []
  none_before x [] above = refl
  none_before x (y ∷ ys) above = rw (above.0) (none_before x ys above.1)

  all_behind : (x : X) (ys : List X) → AllByRecursion (λ y. order x y ≡ Less) ys → filter (λ y. is_lt (order x y)) ys ≡ ys
  all_behind x [] above = refl
  all_behind x (y ∷ ys) above = rw (above.0) (ap (λ l. y ∷ l) (all_behind x ys above.1))

  pub replace_between : (x : X) (xs : List X) → IsStrictlySortedBy order xs → replace_key order xs x ≡ filter (λ y. is_gt (order x y)) xs ++ x ∷ filter (λ y. is_lt (order x y)) xs
  unfolding IsStrictlySortedBy
  replace_between x [] sorted = refl
  replace_between x (y ∷ ys) sorted = by_order (order x y) refl (replace_between x ys sorted.1)
    where
      by_order : (o : Ordering) → order x y ≡ o → replace_key order ys x ≡ filter (λ z. is_gt (order x z)) ys ++ x ∷ filter (λ z. is_lt (order x z)) ys
          → match_ordering o (x ∷ y ∷ ys) (x ∷ ys) (y ∷ replace_key order ys x) ≡ cond (is_gt o) (y ∷ filter (λ z. is_gt (order x z)) ys) (filter (λ z. is_gt (order x z)) ys) ++ x ∷ cond (is_lt o) (y ∷ filter (λ z. is_lt (order x z)) ys) (filter (λ z. is_lt (order x z)) ys)
      by_order Less is later = let above = above_less (e x) y ys is sorted.0 in rw (none_before x ys above, all_behind x ys above) refl
      by_order Equal is later = let above = above_same (e x) y ys is sorted.0 in rw (none_before x ys above, all_behind x ys above) refl
      by_order Greater is later = ap (λ l. y ∷ l) later

  none_at : (p : K) (ys : List X) → AllByRecursion (λ y. R p (e y) ≡ Less) ys → filter (λ y. not (at p y)) ys ≡ ys
  none_at p [] above = refl
  none_at p (y ∷ ys) above = rw (above.0) (ap (λ l. y ∷ l) (none_at p ys above.1))

  pub remove_others : (p : K) (xs : List X) → IsStrictlySortedBy order xs → remove_key (at p) xs ≡ filter (λ y. not (at p y)) xs
  unfolding IsStrictlySortedBy
  remove_others p [] sorted = refl
  remove_others p (y ∷ ys) sorted = by_test (at p y) refl (remove_others p ys sorted.1)
    where
      by_test : (b : Bool) → at p y ≡ b → remove_key (at p) ys ≡ filter (λ z. not (at p z)) ys → cond b ys (y ∷ remove_key (at p) ys) ≡ cond (not b) (y ∷ filter (λ z. not (at p z)) ys) (filter (λ z. not (at p z)) ys)
      by_test true is later = sym (none_at p ys (above_same p y ys (eq_of _ is) sorted.0))
      by_test false is later = ap (λ l. y ∷ l) later
