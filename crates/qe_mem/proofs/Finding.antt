-- What ranges of rows under columns hold.
use Rattle.std.proofs.Common.{◌≡◌, ℕ, ◌-◌, ◌≤◌, suc, reverse, length, take, arith, length-append, List, [], ◌∷◌, ◌++◌, filter, Bool, true, false, not, ◌&&◌, cond, refl, sym, ap, ◌∙◌, subst, Ordering, Less, Equal, Greater, is_eq, Some, None}
use Rattle.std.proofs.lemmas.List.{reverse-append, map-append}
use mathlib.Core.Bool.{true≢false}
use Rattle.std.specs.Ordering.{is_lt, is_le, is_ge, ordering_then, ordering_reverse}
use Rattle.std.specs.List.{AllByRecursion}
use Rattle.std.specs.List.Sorted.{IsStrictlySortedBy}
use Rattle.std.specs.BTreeMap.Range.{range_contains}
use Rattle.std.specs.declared.ops.Bound.TheVariants.{Included, Unbounded}
use Rattle.qe_base.specs.declared.value.Row.{Row}
use Rattle.qe_schema.specs.Columns.{Values, values_cmp}
use Rattle.qe_mem.specs.declared.keyed.Columns.{Columns}
use Rattle.qe_mem.specs.declared.keyed.Columns.TheVariants.{Whole}
use Rattle.qe_mem.specs.declared.keyed.Keyed.{Keyed}
use Rattle.qe_mem.specs.Keys.{key_part, id_part, keyed_cmp, under}
use Rattle.qe_mem.specs.KeyOrder.{values_cmp_total}
use Rattle.qe_mem.specs.Listings.{rows_in, AreKeyed, has_key, is_beyond}

-- a test of keys as one of rows
pub rows_in-filter : (cs : Columns) (p : Keyed → Bool) (q : Row → Bool) → ((k : Keyed) → k.columns ≡ cs → p k ≡ q k.row) → (keys : List Keyed) → AreKeyed cs keys → rows_in (filter p keys) ≡ filter q (rows_in keys)
rows_in-filter cs p q same [] are = refl
rows_in-filter cs p q same (k ∷ keys) are =
    by_test (p k) (rows_in-filter cs p q same keys are.1) ∙ ap (λ b. cond b (k.row ∷ filter q (rows_in keys)) (filter q (rows_in keys))) (same k are.0)
  where
    by_test : (b : Bool) → rows_in (filter p keys) ≡ filter q (rows_in keys) → rows_in (cond b (k ∷ filter p keys) (filter p keys)) ≡ cond b (k.row ∷ filter q (rows_in keys)) (filter q (rows_in keys))
    by_test true later = ap (λ l. k.row ∷ l) later
    by_test false later = later

and_true : (b : Bool) → b && true ≡ b
and_true true = refl
and_true false = refl

not_past : (o : Ordering) → not (is_lt o) ≡ is_ge o
not_past Less = refl
not_past Equal = refl
not_past Greater = refl

pub rows_all : (cs : Columns) (keys : List Keyed) → AreKeyed cs keys → rows_in (filter (range_contains keyed_cmp Unbounded Unbounded) keys) ≡ filter (is_beyond cs None false) (rows_in keys)
rows_all cs keys are = rows_in-filter cs (range_contains keyed_cmp Unbounded Unbounded) (is_beyond cs None false) (λ k is. refl) keys are

pub rows_all_back : (cs : Columns) (keys : List Keyed) → AreKeyed cs keys → rows_in (filter (range_contains keyed_cmp Unbounded Unbounded) keys) ≡ filter (is_beyond cs None true) (rows_in keys)
rows_all_back cs keys are = rows_in-filter cs (range_contains keyed_cmp Unbounded Unbounded) (is_beyond cs None true) (λ k is. refl) keys are

pub rows_from : (cs : Columns) (key : Row) (keys : List Keyed) → AreKeyed cs keys → rows_in (filter (range_contains keyed_cmp (Included (under Whole key)) Unbounded) keys) ≡ filter (is_beyond cs (Some key) false) (rows_in keys)
rows_from cs key keys are =
    rows_in-filter cs (range_contains keyed_cmp (Included (under Whole key)) Unbounded) (is_beyond cs (Some key) false) (λ k is. and_true (is_le (keyed_cmp (under Whole key) k)) ∙ ap (λ (c : Columns). is_le (keyed_cmp (under Whole key) (under c k.row))) is) keys are

pub rows_up_to : (cs : Columns) (key : Row) (keys : List Keyed) → AreKeyed cs keys → rows_in (filter (range_contains keyed_cmp Unbounded (Included (under Whole key))) keys) ≡ filter (is_beyond cs (Some key) true) (rows_in keys)
rows_up_to cs key keys are =
    rows_in-filter cs (range_contains keyed_cmp Unbounded (Included (under Whole key))) (is_beyond cs (Some key) true) (λ k is. not_past (keyed_cmp (under Whole key) k) ∙ ap (λ (c : Columns). is_ge (keyed_cmp (under Whole key) (under c k.row))) is) keys are

-- the first ones, as long as they pass a test
abbrev pub lead : {X : Type 0} → (X → Bool) → List X → List X
lead p [] = []
lead p (x ∷ xs) = cond (p x) (x ∷ lead p xs) []

-- which of the keys are those of a key
abbrev pub under_key : Keyed → Keyed → Bool
under_key from k = is_eq (values_cmp (key_part from.columns from.row) (key_part k.columns k.row))

append_one : (xs : List Row) (x : Row) (ys : List Row) → (xs ++ x ∷ []) ++ ys ≡ xs ++ x ∷ ys
append_one [] x ys = refl
append_one (y ∷ xs) x ys = ap (λ l. y ∷ l) (append_one xs x ys)

append_none : (xs : List Row) → xs ++ [] ≡ xs
append_none [] = refl
append_none (x ∷ xs) = ap (λ l. x ∷ l) (append_none xs)

pub lead_step : (from k : Keyed) (before after : List Row) (row : Row) (keys left : List Keyed) (all : List Row) → under_key from k ≡ true → keys ≡ k ∷ left → after ≡ before ++ row ∷ [] → row ≡ k.row → before ++ rows_in (lead (under_key from) keys) ≡ all
    → after ++ rows_in (lead (under_key from) left) ≡ all
lead_step from k before after row keys left all is split is_after is_row so_far =
    ap (λ l. l ++ rows_in (lead (under_key from) left)) (is_after ∙ ap (λ r. before ++ r ∷ []) is_row)
    ∙ append_one before k.row (rows_in (lead (under_key from) left)) ∙ ap (λ l. before ++ l) (sym (opened keys split)) ∙ so_far
  where
    opened : (ks : List Keyed) → ks ≡ k ∷ left → rows_in (lead (under_key from) ks) ≡ k.row ∷ rows_in (lead (under_key from) left)
    opened ks same = rw (same, is) refl

pub lead_stop : (from k : Keyed) (before : List Row) (keys left : List Keyed) (all : List Row) → under_key from k ≡ false → keys ≡ k ∷ left → before ++ rows_in (lead (under_key from) keys) ≡ all
    → before ≡ all
lead_stop from k before keys left all is split so_far = sym (append_none before) ∙ ap (λ l. before ++ l) (sym (closed keys split)) ∙ so_far
  where
    closed : (ks : List Keyed) → ks ≡ k ∷ left → rows_in (lead (under_key from) ks) ≡ []
    closed ks same = rw (same, is) refl

pub lead_end : (from : Keyed) (before : List Row) (keys : List Keyed) (all : List Row) → keys ≡ [] → before ++ rows_in (lead (under_key from) keys) ≡ all → before ≡ all
lead_end from before keys all none so_far = sym (append_none before) ∙ ap (λ l. before ++ rows_in (lead (under_key from) l)) (sym none) ∙ so_far

-- of keys in order, from a whole key on, the first ones are all of that key
module _ (from : Keyed) (whole : from.columns ≡ Whole) where
  abbrev inside : Keyed → Bool
  inside = range_contains keyed_cmp (Included from) Unbounded

  no_id : (k : Keyed) → (o : Ordering) → values_cmp (key_part from.columns from.row) (key_part k.columns k.row) ≡ o → inside k ≡ is_le (ordering_then o (values_cmp (id_part from.columns from.row) (id_part k.columns k.row)))
  no_id k o is = and_true (is_le (keyed_cmp from k)) ∙ ap (λ x. is_le (ordering_then x (values_cmp (id_part from.columns from.row) (id_part k.columns k.row)))) is

  least : (values : Values) → is_le (values_cmp [] values) ≡ true
  least [] = refl
  least (value ∷ values) = refl

  id_least : (k : Keyed) → is_le (values_cmp (id_part from.columns from.row) (id_part k.columns k.row)) ≡ true
  id_least k = rw whole (least (id_part k.columns k.row))

  eq_of : (o : Ordering) → is_eq o ≡ true → o ≡ Equal
  eq_of Equal is = refl
  eq_of Less is = cc
  eq_of Greater is = cc

  -- what is under the key is in the range
  under_inside : (k : Keyed) → under_key from k ≡ true → inside k ≡ true
  under_inside k is = no_id k Equal (eq_of _ is) ∙ id_least k

  -- what lies between the start of the range and one that is under the key is under it
  between : (a b : Keyed) → inside a ≡ true → keyed_cmp a b ≡ Less → under_key from b ≡ true → under_key from a ≡ true
  between a b in_range less under = by_order (values_cmp (key_part a.columns a.row) (key_part b.columns b.row)) refl less
    where
      turned_key : values_cmp (key_part from.columns from.row) (key_part a.columns a.row) ≡ ordering_reverse (values_cmp (key_part a.columns a.row) (key_part b.columns b.row))
      turned_key =
          values_cmp_total.congr (key_part from.columns from.row) (key_part b.columns b.row) (key_part a.columns a.row) (eq_of _ under) ∙ values_cmp_total.antisymm (key_part b.columns b.row) (key_part a.columns a.row)

      by_order : (o : Ordering) → values_cmp (key_part a.columns a.row) (key_part b.columns b.row) ≡ o → ordering_then o (values_cmp (id_part a.columns a.row) (id_part b.columns b.row)) ≡ Less
          → is_eq (values_cmp (key_part from.columns from.row) (key_part a.columns a.row)) ≡ true
      by_order Less is_o less = absurd (true≢false (sym in_range ∙ no_id a Greater (turned_key ∙ ap ordering_reverse is_o)))
      by_order Equal is_o less = ap is_eq (turned_key ∙ ap ordering_reverse is_o)
      by_order Greater is_o less = cc

  none_under : (k : Keyed) (keys : List Keyed) → inside k ≡ true → under_key from k ≡ false → AllByRecursion (λ y. keyed_cmp k y ≡ Less) keys → filter (under_key from) keys ≡ []
  none_under k [] in_range apart above = refl
  none_under k (y ∷ keys) in_range apart above = by_test (under_key from y) refl (none_under k keys in_range apart above.1)
    where
      by_test : (b : Bool) → under_key from y ≡ b → filter (under_key from) keys ≡ [] → cond b (y ∷ filter (under_key from) keys) (filter (under_key from) keys) ≡ []
      by_test true is later = absurd (true≢false (sym (between k y in_range above.0 is) ∙ apart))
      by_test false is later = later

  by_tests : (k : Keyed) (keys : List Keyed) (b u : Bool) → inside k ≡ b → under_key from k ≡ u → lead (under_key from) (filter inside keys) ≡ filter (under_key from) keys
      → (inside k ≡ true → under_key from k ≡ false → filter (under_key from) keys ≡ []) → lead (under_key from) (cond b (k ∷ filter inside keys) (filter inside keys)) ≡ cond u (k ∷ filter (under_key from) keys) (filter (under_key from) keys)
  by_tests k keys false false is_b is_u later none = later
  by_tests k keys false true is_b is_u later none = absurd (true≢false (sym (under_inside k is_u) ∙ is_b))
  by_tests k keys true true is_b is_u later none = rw is_u (ap (λ l. k ∷ l) later)
  by_tests k keys true false is_b is_u later none = rw is_u (sym (none is_b is_u))

  lead_is_filter : (keys : List Keyed) → IsStrictlySortedBy keyed_cmp keys → lead (under_key from) (filter inside keys) ≡ filter (under_key from) keys
  unfolding IsStrictlySortedBy
  lead_is_filter [] sorted = refl
  lead_is_filter (k ∷ keys) sorted = by_tests k keys (inside k) (under_key from k) refl refl (lead_is_filter keys sorted.1) (λ in_range apart. none_under k keys in_range apart sorted.0)

  pub found : (cs : Columns) (keys : List Keyed) → IsStrictlySortedBy keyed_cmp keys → AreKeyed cs keys → rows_in (lead (under_key from) (filter inside keys)) ≡ filter (has_key cs from.row.values) (rows_in keys)
  found cs keys sorted are = ap rows_in (lead_is_filter keys sorted) ∙ rows_in-filter cs (under_key from) (has_key cs from.row.values) (λ k is. rw (whole, is) refl) keys are

-- one more row of a page
page_one : (count : ℕ) (before : List Row) (x : Row) (xs all : List Row) → length before ≤ count → (length before ≡ count → ⊥) → before ++ take (count - length before) (x ∷ xs) ≡ all
    → (length (before ++ x ∷ []) ≤ count) × ((before ++ x ∷ []) ++ take (count - length (before ++ x ∷ [])) xs ≡ all)
page_one count before x xs all within apart so_far =
    let e : count - length before ≡ suc (count - length (before ++ x ∷ [])) = omega (arith, length-append before (x ∷ [])) in
    (omega (arith, length-append before (x ∷ [])), append_one before x (take (count - length (before ++ x ∷ [])) xs) ∙ ap (λ n. before ++ take n (x ∷ xs)) (sym e) ∙ so_far)

pub page_step : (count : ℕ) (before after : List Row) (row x : Row) (rows left all : List Row) → after ≡ before ++ row ∷ [] → row ≡ x → rows ≡ x ∷ left → length before ≤ count → (length before ≡ count → ⊥) → before ++ take (count - length before) rows ≡ all
    → (length after ≤ count) × (after ++ take (count - length after) left ≡ all)
page_step count before after row x rows left all is_after is_row split within apart so_far =
    subst (λ l. (length l ≤ count) × (l ++ take (count - length l) left ≡ all)) (sym (is_after ∙ ap (λ r. before ++ r ∷ []) is_row))
    (page_one count before x left all within apart (ap (λ l. before ++ take (count - length before) l) (sym split) ∙ so_far))

-- the last key of a list is the first of it reversed
pub last_row : (keys left : List Keyed) (k : Keyed) → keys ≡ left ++ k ∷ [] → reverse (rows_in keys) ≡ k.row ∷ reverse (rows_in left)
last_row keys left k split = ap (λ l. reverse (rows_in l)) split ∙ ap reverse (map-append (λ k. k.row) left (k ∷ [])) ∙ reverse-append (rows_in left) (k.row ∷ [])
