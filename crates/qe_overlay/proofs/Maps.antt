-- Entries in the order of their keys: what is found in them, and when two lists of them are one.
use Rattle.std.proofs.Common.{◌≡◌, List, [], ◌∷◌, ◌++◌, filter, Option, Some, None, Bool, true, false, cond, refl, sym, ap, subst, ◌∙◌, Ordering, Less, Equal, Greater, is_eq}
use Rattle.std.specs.List.{AllByRecursion}
use Rattle.std.specs.List.Sorted.{IsStrictlySortedBy}
use Rattle.std.specs.Map.{keys_of, lookup}
use Rattle.std.specs.Ordering.{is_lt, is_gt, match_ordering, ordering_reverse}
use Rattle.std.specs.Cmp.{IsTotalOrder}
use Rattle.std.specs.BTreeMap.{insert_entry, is_at}
use Rattle.std.proofs.lemmas.List.Kept.{IsStrictlySortedBy-filter}
use Rattle.std.proofs.lemmas.Map.Lookups.{CmpEqualImpliesEq}
use Rattle.qe_overlay.proofs.Undoing.{equal_itself, none_found, below_later}

module _ {K : Type 0} {R : K → K → Ordering} (total : IsTotalOrder R) where
  pub turned : (k y : K) (o : Ordering) → R k y ≡ o → R y k ≡ ordering_reverse o
  turned k y o is = total.antisymm y k ∙ ap ordering_reverse is

  pub same_back : (k y : K) → is_eq (R k y) ≡ is_eq (R y k)
  same_back k y = by_order (R k y) refl
    where
      by_order : (o : Ordering) → R k y ≡ o → is_eq o ≡ is_eq (R y k)
      by_order Less is = sym (ap is_eq (turned k y Less is))
      by_order Equal is = sym (ap is_eq (turned k y Equal is))
      by_order Greater is = sym (ap is_eq (turned k y Greater is))

  beyond_same : (k y : K) (ys : List K) → R k y ≡ Equal → AllByRecursion (λ z. R y z ≡ Less) ys → AllByRecursion (λ z. R k z ≡ Less) ys
  beyond_same k y [] same above = tt
  beyond_same k y (z ∷ ys) same above = (total.congr k y z same ∙ above.0, beyond_same k y ys same above.1)

module _ {K X : Type 0} {R : K → K → Ordering} (total : IsTotalOrder R) where
  -- ---- entering

  found_at : (q k : K) (v : X) (e : K × X) (es : List (K × X)) (o p : Ordering) → R k e.0 ≡ o → R q e.0 ≡ p
      → lookup (is_at (R q)) (insert_entry R es k v) ≡ cond (is_eq (R q k)) (Some v) (lookup (is_at (R q)) es)
      → lookup (is_at (R q)) (match_ordering o ((k, v) ∷ e ∷ es) ((e.0, v) ∷ es) (e ∷ insert_entry R es k v)) ≡ cond (is_eq (R q k)) (Some v) (cond (is_eq p) (Some e.1) (lookup (is_at (R q)) es))
  found_at q k v e es Less p is at later = rw at refl
  found_at q k v e es Equal p is at later =
      let here : is_eq p ≡ is_eq (R q k) = ap is_eq (sym at) ∙ same_back total q e.0 ∙ ap is_eq (sym (total.congr k e.0 q is)) ∙ same_back total k q in
      rw (at, here) (elim (is_eq (R q k)) as (λ b. cond b (Some v) (lookup (is_at (R q)) es) ≡ cond b (Some v) (cond b (Some e.1) (lookup (is_at (R q)) es))) [ true ↦ refl | false ↦ refl ])
  found_at q k v e es Greater Equal is at later =
      let apart : is_eq (R q k) ≡ false = ap is_eq (total.congr q e.0 k at) ∙ ap is_eq (turned total k e.0 Greater is) in
      rw (at, apart) refl
  found_at q k v e es Greater Less is at later = rw at later
  found_at q k v e es Greater Greater is at later = rw at later

  pub lookup-insert_entry : (q k : K) (v : X) (es : List (K × X)) → lookup (is_at (R q)) (insert_entry R es k v) ≡ cond (is_eq (R q k)) (Some v) (lookup (is_at (R q)) es)
  lookup-insert_entry q k v [] = refl
  lookup-insert_entry q k v (e ∷ es) = found_at q k v e es (R k e.0) (R q e.0) refl refl (lookup-insert_entry q k v es)

  below_inserted : (y k : K) (v : X) (es : List (K × X)) → R y k ≡ Less → AllByRecursion (λ z. R y z ≡ Less) (keys_of es) → AllByRecursion (λ z. R y z ≡ Less) (keys_of (insert_entry R es k v))
  below_inserted y k v [] less below = (less, tt)
  below_inserted y k v (e ∷ es) less below = by_order (R k e.0) (below_inserted y k v es less below.1)
    where
      by_order : (o : Ordering) → AllByRecursion (λ z. R y z ≡ Less) (keys_of (insert_entry R es k v)) → AllByRecursion (λ z. R y z ≡ Less) (keys_of (match_ordering o ((k, v) ∷ e ∷ es) ((e.0, v) ∷ es) (e ∷ insert_entry R es k v)))
      by_order Less later = (less, below)
      by_order Equal later = below
      by_order Greater later = (below.0, later)

  pub sorted-insert_entry : (k : K) (v : X) (es : List (K × X)) → IsStrictlySortedBy R (keys_of es) → IsStrictlySortedBy R (keys_of (insert_entry R es k v))
  unfolding IsStrictlySortedBy
  sorted-insert_entry k v [] sorted = (tt, tt)
  sorted-insert_entry k v (e ∷ es) sorted = by_order (R k e.0) refl (sorted-insert_entry k v es sorted.1)
    where
      by_order : (o : Ordering) → R k e.0 ≡ o → IsStrictlySortedBy R (keys_of (insert_entry R es k v)) → IsStrictlySortedBy R (keys_of (match_ordering o ((k, v) ∷ e ∷ es) ((e.0, v) ∷ es) (e ∷ insert_entry R es k v)))
      by_order Less is later = ((is, below_later total k v e.0 (keys_of es) is sorted.0), sorted)
      by_order Equal is later = sorted
      by_order Greater is later = (below_inserted e.0 k v es (turned total k e.0 Greater is) sorted.0, later)

  -- ---- lists of entries in which the same is found

  none_below_head : (q : K) (e : K × X) (es : List (K × X)) → R q e.0 ≡ Less → IsStrictlySortedBy R (keys_of (e ∷ es)) → lookup (is_at (R q)) (e ∷ es) ≡ None
  unfolding IsStrictlySortedBy
  none_below_head q e es less sorted = none_found total q e.1 (e ∷ es) (less, below_later total q e.1 e.0 (keys_of es) less sorted.0)

  found_head : (e : K × X) (es : List (K × X)) → lookup (is_at (R e.0)) (e ∷ es) ≡ Some e.1
  found_head e es = rw (equal_itself total e.0 e.1) refl

  -- what is found behind the head is found in the whole, unless it is the head
  pub found_behind : (e : K × X) (es : List (K × X)) (q : K) (o : Ordering) → R q e.0 ≡ o → IsStrictlySortedBy R (keys_of (e ∷ es)) → lookup (is_at (R q)) es ≡ cond (is_eq o) None (lookup (is_at (R q)) (e ∷ es))
  unfolding IsStrictlySortedBy
  found_behind e es q Less is sorted = rw is refl
  found_behind e es q Equal is sorted = none_found total q e.1 es (below_same (keys_of es) sorted.0)
    where
      below_same : (ys : List K) → AllByRecursion (λ z. R e.0 z ≡ Less) ys → AllByRecursion (λ z. R q z ≡ Less) ys
      below_same [] below = tt
      below_same (y ∷ ys) below = (total.congr q e.0 y is ∙ below.0, below_same ys below.1)
  found_behind e es q Greater is sorted = rw is refl

  some_is : (a b : X) → (let x : Option X = Some a in x) ≡ Some b → a ≡ b
  some_is a b is = ap (λ o. elim o as (λ _. X) [ None ↦ a | Some x ↦ x ]) is

  pub found_same : CmpEqualImpliesEq R → (es fs : List (K × X)) → IsStrictlySortedBy R (keys_of es) → IsStrictlySortedBy R (keys_of fs) → ((q : K) → lookup (is_at (R q)) es ≡ lookup (is_at (R q)) fs) → es ≡ fs
  unfolding IsStrictlySortedBy
  found_same exact [] [] s t same = refl
  found_same exact [] (f ∷ fs) s t same = absurd (let h = same f.0 ∙ found_head f fs in cc)
  found_same exact (e ∷ es) [] s t same = absurd (let h = sym (same e.0) ∙ found_head e es in cc)
  found_same exact (e ∷ es) (f ∷ fs) s t same = by_order (R e.0 f.0) refl (found_same exact es fs s.1 t.1)
    where
      by_order : (o : Ordering) → R e.0 f.0 ≡ o → (((q : K) → lookup (is_at (R q)) es ≡ lookup (is_at (R q)) fs) → es ≡ fs) → (let l : List (K × X) = e ∷ es in l) ≡ f ∷ fs
      by_order Less is later = absurd (let h = sym (found_head e es) ∙ same e.0 ∙ none_below_head e.0 f fs is t in cc)
      by_order Greater is later = absurd (let h = sym (found_head f fs) ∙ sym (same f.0) ∙ none_below_head f.0 e es (turned total e.0 f.0 Greater is) s in cc)
      by_order Equal is later =
          let key : e.0 ≡ f.0 = exact e.0 f.0 is in
          let value : e.1 ≡ f.1 = some_is e.1 f.1 (sym (found_head e es) ∙ same e.0 ∙ ap (λ q. lookup (is_at (R q)) (f ∷ fs)) key ∙ found_head f fs) in
          λ i. (key i, value i) ∷ later (λ q. found_behind e es q (R q e.0) refl s ∙ (λ j. cond (is_eq (R q (key j))) None (same q j)) ∙ sym (found_behind f fs q (R q f.0) refl t)) i

  -- ---- an entry between those of smaller and those of greater keys

  none_below : (k : K) (es : List (K × X)) → AllByRecursion (λ y. R k y ≡ Less) (keys_of es) → filter (λ o. is_lt (R o.0 k)) es ≡ []
  none_below k [] above = refl
  none_below k (x ∷ es) above = rw (turned total k x.0 Less above.0) (none_below k es above.1)

  all_beyond : (k : K) (es : List (K × X)) → AllByRecursion (λ y. R k y ≡ Less) (keys_of es) → filter (λ o. is_gt (R o.0 k)) es ≡ es
  all_beyond k [] above = refl
  all_beyond k (x ∷ es) above = rw (turned total k x.0 Less above.0) (ap (λ l. x ∷ l) (all_beyond k es above.1))

  pub between : CmpEqualImpliesEq R → (k : K) (v : X) (es : List (K × X)) → IsStrictlySortedBy R (keys_of es) → insert_entry R es k v ≡ filter (λ x. is_lt (R x.0 k)) es ++ (k, v) ∷ filter (λ x. is_gt (R x.0 k)) es
  unfolding IsStrictlySortedBy
  between exact k v [] sorted = refl
  between exact k v (e ∷ es) sorted = by_order (R k e.0) refl (between exact k v es sorted.1)
    where
      by_order : (o : Ordering) → R k e.0 ≡ o → insert_entry R es k v ≡ filter (λ x. is_lt (R x.0 k)) es ++ (k, v) ∷ filter (λ x. is_gt (R x.0 k)) es
          → match_ordering o ((k, v) ∷ e ∷ es) ((e.0, v) ∷ es) (e ∷ insert_entry R es k v) ≡ filter (λ x. is_lt (R x.0 k)) (e ∷ es) ++ (k, v) ∷ filter (λ x. is_gt (R x.0 k)) (e ∷ es)
      by_order Less is later = let above = below_later total k v e.0 (keys_of es) is sorted.0 in rw (turned total k e.0 Less is, none_below k es above, all_beyond k es above) refl
      by_order Equal is later = let above = beyond_same total k e.0 (keys_of es) is sorted.0 in rw (turned total k e.0 Equal is, none_below k es above, all_beyond k es above) (ap (λ y. (y, v) ∷ es) (sym (exact k e.0 is)))
      by_order Greater is later = rw (turned total k e.0 Greater is) (ap (λ l. e ∷ l) later)

  -- ---- leaving some out

  keys-filter : (p : K → Bool) (es : List (K × X)) → keys_of (filter (λ e. p e.0) es) ≡ filter p (keys_of es)
  keys-filter p [] = refl
  keys-filter p (e ∷ es) = elim (p e.0) as (λ b. keys_of (cond b (e ∷ filter (λ x. p x.0) es) (filter (λ x. p x.0) es)) ≡ cond b (e.0 ∷ filter p (keys_of es)) (filter p (keys_of es))) [ true ↦ ap (λ l. e.0 ∷ l) (keys-filter p es) | false ↦ keys-filter p es ]

  pub sorted-filter-keys : (p : K → Bool) (es : List (K × X)) → IsStrictlySortedBy R (keys_of es) → IsStrictlySortedBy R (keys_of (filter (λ e. p e.0) es))
  sorted-filter-keys p es sorted = subst (IsStrictlySortedBy R) (sym (keys-filter p es)) (IsStrictlySortedBy-filter R p (keys_of es) sorted)

  below-filter : (y : K) (p : K × X → Bool) (es : List (K × X)) → AllByRecursion (λ z. R y z ≡ Less) (keys_of es) → AllByRecursion (λ z. R y z ≡ Less) (keys_of (filter p es))
  below-filter y p [] below = tt
  below-filter y p (e ∷ es) below = elim (p e) as (λ b. AllByRecursion (λ z. R y z ≡ Less) (keys_of (cond b (e ∷ filter p es) (filter p es)))) [ true ↦ (below.0, below-filter y p es below.1) | false ↦ below-filter y p es below.1 ]

  pub sorted-filter : (p : K × X → Bool) (es : List (K × X)) → IsStrictlySortedBy R (keys_of es) → IsStrictlySortedBy R (keys_of (filter p es))
  unfolding IsStrictlySortedBy
  sorted-filter p [] sorted = tt
  sorted-filter p (e ∷ es) sorted = elim (p e) as (λ b. IsStrictlySortedBy R (keys_of (cond b (e ∷ filter p es) (filter p es)))) [ true ↦ (below-filter e.0 p es sorted.0, sorted-filter p es sorted.1) | false ↦ sorted-filter p es sorted.1 ]
