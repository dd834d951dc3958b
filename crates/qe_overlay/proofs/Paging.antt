-- Pages of the rows seen, made of pages of the rows below.
use Rattle.std.proofs.Common.{◌≡◌, ◌≤◌, ◌<◌, ◌+◌, ℕ, zero, suc, min, List, [], ◌∷◌, ◌++◌, map, filter, take, drop, reverse, length, Option, Bool, true, false, cond, not, ◌||◌, ◌&&◌, refl, sym, ap, subst, ◌∙◌, Ordering, Less, Equal, Greater, is_eq, arith}
use Rattle.std.specs.Prelude.{nat_lt}
use Rattle.std.specs.List.{AllByRecursion, list_all}
use Rattle.std.specs.List.Sorted.{IsStrictlySortedBy}
use Rattle.std.specs.Map.{keys_of, values_of}
use Rattle.std.specs.Ordering.{is_lt, is_gt, match_ordering, ordering_reverse, flip_args}
use Rattle.std.specs.Cmp.{IsTotalOrder}
use Rattle.std.specs.BTreeMap.{insert_entry}
use Rattle.std.proofs.lemmas.Bool.{and_parts, ltb-true, ltb-false}
use Rattle.std.proofs.lemmas.Cmp.{back_total}
use Rattle.std.proofs.lemmas.List.{append-nil, append_assoc, reverse-append, map-append, length-take, length-take-le, take-append-drop, take-append-le, take-map, take-take, take_all}
use Rattle.std.proofs.lemmas.List.Filters.{length-filter_both}
use Rattle.std.proofs.lemmas.Map.Lookups.{CmpEqualImpliesEq}
use Rattle.qe_base.specs.Values.{row_cmp}
use Rattle.qe_base.specs.ValueOrder.{row_cmp_total}
use Rattle.qe_base.specs.declared.schema.Table.{Table}
use Rattle.qe_base.specs.declared.value.Row.{Row}
use Rattle.qe_schema.specs.Columns.{are_same}
use Rattle.qe_schema.specs.Tables.{id_of}
use Rattle.qe_schema.proofs.Equal.{exact_row, same_as_rows}
use Rattle.qe_view.specs.After.{is_from, turned, page_among}
use Rattle.qe_overlay.specs.Laid.{id_row, put_in, untouched, laid_over, page_over}
use Rattle.qe_overlay.specs.Layers.{Entry, present, is_entered, over_rows}
use Rattle.qe_overlay.proofs.Maps.{same_back, between, sorted-filter-keys}
use Rattle.qe_overlay.proofs.Rows.{keyed, Sorted, OwnIds, SortedEntries, keyed-filter-ids, sorted-filter-rows, sorted-untouched, sorted-put_in, laid_seen, all_laid}

-- ---- lists, turned

abbrev pub turn : {A : Type 0} → Bool → List A → List A
turn false xs = xs
turn true xs = reverse xs

turned_is : (backward : Bool) (rows : List Row) → turned backward rows ≡ turn backward rows
turned_is false rows = refl
turned_is true rows = refl

turn_none : {A : Type 0} (backward : Bool) → turn backward (let none : List A = [] in none) ≡ []
turn_none false = refl
turn_none true = refl

reverse_first : {A : Type 0} (x : A) (xs : List A) → reverse (x ∷ xs) ≡ reverse xs ++ x ∷ []
reverse_first x xs = reverse-append (x ∷ []) xs

reverse_map : {A B : Type 0} (f : A → B) (xs : List A) → reverse (map f xs) ≡ map f (reverse xs)
reverse_map f [] = refl
reverse_map f (x ∷ xs) =
    reverse_first (f x) (map f xs) ∙ ap (λ l. l ++ f x ∷ []) (reverse_map f xs) ∙ sym (map-append f (reverse xs) (x ∷ [])) ∙ ap (map f) (sym (reverse_first x xs))

filter_append : {A : Type 0} (p : A → Bool) (xs ys : List A) → filter p (xs ++ ys) ≡ filter p xs ++ filter p ys
filter_append p [] ys = refl
filter_append p (x ∷ xs) ys = elim (p x) as (λ b. cond b (x ∷ filter p (xs ++ ys)) (filter p (xs ++ ys)) ≡ cond b (x ∷ filter p xs) (filter p xs) ++ filter p ys) [ true ↦ ap (λ l. x ∷ l) (filter_append p xs ys) | false ↦ filter_append p xs ys ]

reverse_filter : {A : Type 0} (p : A → Bool) (xs : List A) → reverse (filter p xs) ≡ filter p (reverse xs)
reverse_filter p [] = refl
reverse_filter p (x ∷ xs) =
    (elim (p x) as (λ b. reverse (cond b (x ∷ filter p xs) (filter p xs)) ≡ filter p (reverse xs) ++ cond b (x ∷ []) [])
    [ true ↦ reverse_first x (filter p xs) ∙ ap (λ l. l ++ x ∷ []) (reverse_filter p xs) | false ↦ reverse_filter p xs ∙ sym (append-nil (filter p (reverse xs))) ])
    ∙ sym (ap (filter p) (reverse_first x xs) ∙ filter_append p (reverse xs) (x ∷ []))

turn_map : {A B : Type 0} (backward : Bool) (f : A → B) (xs : List A) → turn backward (map f xs) ≡ map f (turn backward xs)
turn_map false f xs = refl
turn_map true f xs = reverse_map f xs

turn_filter : {A : Type 0} (backward : Bool) (p : A → Bool) (xs : List A) → turn backward (filter p xs) ≡ filter p (turn backward xs)
turn_filter false p xs = refl
turn_filter true p xs = reverse_filter p xs

pub all-push : {A : Type 0} (P : A → Type 0) (xs : List A) (x : A) → AllByRecursion P xs → P x → AllByRecursion P (xs ++ x ∷ [])
all-push P [] x all one = (one, tt)
all-push P (y ∷ xs) x all one = (all.0, all-push P xs x all.1 one)

all_reverse : {A : Type 0} (P : A → Type 0) (xs : List A) → AllByRecursion P xs → AllByRecursion P (reverse xs)
all_reverse P [] all = tt
all_reverse P (x ∷ xs) all = subst (AllByRecursion P) (sym (reverse_first x xs)) (all-push P (reverse xs) x (all_reverse P xs all.1) all.0)

-- ---- the order of a page

-- that of the ids, or backward
abbrev pub way : Bool → Row → Row → Ordering
way false = row_cmp
way true = flip_args row_cmp

way_total : (backward : Bool) → IsTotalOrder (way backward)
way_total false = row_cmp_total
way_total true = back_total row_cmp_total

-- rows in such an order
abbrev pub InWay : (Row → Row → Ordering) → Table → List Row → Type 0
InWay R table rows = IsStrictlySortedBy R (keys_of (keyed table rows))

module _ {K : Type 0} (R : K → K → Ordering) where
  sorted_push : (ks : List K) (k : K) → IsStrictlySortedBy R ks → AllByRecursion (λ y. R y k ≡ Less) ks → IsStrictlySortedBy R (ks ++ k ∷ [])
  unfolding IsStrictlySortedBy
  sorted_push [] k sorted below = (tt, tt)
  sorted_push (y ∷ ks) k sorted below = (all-push (λ z. R y z ≡ Less) ks k sorted.0 below.0, sorted_push ks k sorted.1 below.1)

sorted_reverse : {K : Type 0} (R : K → K → Ordering) (ks : List K) → IsStrictlySortedBy R ks → IsStrictlySortedBy (flip_args R) (reverse ks)
unfolding IsStrictlySortedBy
sorted_reverse R [] sorted = tt
sorted_reverse R (k ∷ ks) sorted =
    subst (IsStrictlySortedBy (flip_args R)) (sym (reverse_first k ks)) (sorted_push (flip_args R) (reverse ks) k (sorted_reverse R ks sorted.1) (all_reverse (λ y. R k y ≡ Less) ks sorted.0))

sorted_turn : (backward : Bool) (ks : List Row) → IsStrictlySortedBy row_cmp ks → IsStrictlySortedBy (way backward) (turn backward ks)
sorted_turn false ks sorted = sorted
sorted_turn true ks sorted = sorted_reverse row_cmp ks sorted

pub in_way : (backward : Bool) (table : Table) (rows : List Row) → Sorted table rows → InWay (way backward) table (turn backward rows)
in_way backward table rows sorted =
    subst (IsStrictlySortedBy (way backward)) (turn_map backward (λ e. e.0) (keyed table rows) ∙ ap keys_of (turn_map backward (λ row. (id_row table row, row)) rows)) (sorted_turn backward (keys_of (keyed table rows)) sorted)

below_take : (P : Row → Type 0) (table : Table) (n : ℕ) (rows : List Row) → AllByRecursion P (keys_of (keyed table rows)) → AllByRecursion P (keys_of (keyed table (take n rows)))
below_take P table zero rows all = tt
below_take P table (suc n) [] all = tt
below_take P table (suc n) (row ∷ rows) all = (all.0, below_take P table n rows all.1)

in_way_take : (R : Row → Row → Ordering) (table : Table) (n : ℕ) (rows : List Row) → InWay R table rows → InWay R table (take n rows)
unfolding IsStrictlySortedBy
in_way_take R table zero rows sorted = tt
in_way_take R table (suc n) [] sorted = tt
in_way_take R table (suc n) (row ∷ rows) sorted = (below_take (λ y. R (id_row table row) y ≡ Less) table n rows sorted.0, in_way_take R table n rows sorted.1)

in_way_untouched : (backward : Bool) (table : Table) (entries : List Entry) (rows : List Row) → InWay (way backward) table rows → InWay (way backward) table (untouched table entries rows)
in_way_untouched backward table entries rows sorted =
    subst (λ es. IsStrictlySortedBy (way backward) (keys_of es)) (sym (keyed-filter-ids table (λ k. not (is_entered entries k.values)) rows))
    (sorted-filter-keys (way_total backward) (λ k. not (is_entered entries k.values)) (keyed table rows) sorted)

-- ---- entering in such an order

less_back : (o : Ordering) → is_lt (ordering_reverse o) ≡ is_gt o
less_back Less = refl
less_back Equal = refl
less_back Greater = refl

less_is : {K : Type 0} {R : K → K → Ordering} → IsTotalOrder R → (k y : K) → is_lt (R k y) ≡ is_gt (R y k)
less_is {R = R} total k y = ap is_lt (total.antisymm k y) ∙ less_back (R y k)

module _ {K X : Type 0} {R : K → K → Ordering} (total : IsTotalOrder R) (exact : CmpEqualImpliesEq R) where
  reverse_insert : (k : K) (v : X) (es : List (K × X)) → IsStrictlySortedBy R (keys_of es) → reverse (insert_entry R es k v) ≡ insert_entry (flip_args R) (reverse es) k v
  reverse_insert k v es sorted =
      let lower : List (K × X) = filter (λ x. is_lt (R x.0 k)) es in
      let upper : List (K × X) = filter (λ x. is_gt (R x.0 k)) es in
      let exact_back : CmpEqualImpliesEq (flip_args R) = λ a b is. sym (exact b a is) in
      let sorted_back : IsStrictlySortedBy (flip_args R) (keys_of (reverse es)) = subst (IsStrictlySortedBy (flip_args R)) (reverse_map (λ e. e.0) es) (sorted_reverse R (keys_of es) sorted) in
      ap reverse (between total exact k v es sorted)
      ∙ reverse-append lower ((k, v) ∷ upper)
      ∙ ap (λ l. l ++ reverse lower) (reverse_first (k, v) upper)
      ∙ append_assoc (reverse upper) ((k, v) ∷ []) (reverse lower)
      ∙ (λ i. reverse_filter (λ x. is_gt (R x.0 k)) es i ++ (k, v) ∷ reverse_filter (λ x. is_lt (R x.0 k)) es i)
      ∙ (λ i. filter (λ x. sym (less_is total k x.0) i) (reverse es) ++ (k, v) ∷ filter (λ x. less_is total x.0 k i) (reverse es))
      ∙ sym (between (back_total total) exact_back k v (reverse es) sorted_back)

module _ {K X : Type 0} (R : K → K → Ordering) where
  insert_first : (k : K) (v : X) (es : List (K × X)) → AllByRecursion (λ y. R k y ≡ Less) (keys_of es) → insert_entry R es k v ≡ (k, v) ∷ es
  insert_first k v [] below = refl
  insert_first k v (e ∷ es) below = ap (λ o. match_ordering o ((k, v) ∷ e ∷ es) ((e.0, v) ∷ es) (e ∷ insert_entry R es k v)) below.0

  -- what comes first after an entry stands by what came first before it
  take_insert : (n : ℕ) (es : List (K × X)) (k : K) (v : X) → take n (insert_entry R es k v) ≡ take n (insert_entry R (take n es) k v)
  take_insert zero es k v = refl
  take_insert (suc n) [] k v = refl
  take_insert (suc n) (e ∷ es) k v = by_order (R k e.0) (take_insert n es k v)
    where
      by_order : (o : Ordering) → take n (insert_entry R es k v) ≡ take n (insert_entry R (take n es) k v)
          → take (suc n) (match_ordering o ((k, v) ∷ e ∷ es) ((e.0, v) ∷ es) (e ∷ insert_entry R es k v)) ≡ take (suc n) (match_ordering o ((k, v) ∷ e ∷ take n es) ((e.0, v) ∷ take n es) (e ∷ insert_entry R (take n es) k v))
      by_order Less later = ap (λ l. (k, v) ∷ l) (sym (take-take n (suc n) (e ∷ es) (omega arith)))
      by_order Equal later = ap (λ l. (e.0, v) ∷ l) (sym (take-take n n es (omega arith)))
      by_order Greater later = ap (λ l. e ∷ l) later

turn_insert : (backward : Bool) (id row : Row) (laid : List (Row × Row)) → IsStrictlySortedBy row_cmp (keys_of laid) → turn backward (insert_entry row_cmp laid id row) ≡ insert_entry (way backward) (turn backward laid) id row
turn_insert false id row laid sorted = refl
turn_insert true id row laid sorted = reverse_insert row_cmp_total exact_row id row laid sorted

-- rows under their ids in this order, beside those that are laid there
abbrev pub put_by : (Row → Row → Ordering) → Table → List Row → List (Row × Row) → List (Row × Row)
put_by R table [] laid = laid
put_by R table (row ∷ rows) laid = insert_entry R (put_by R table rows laid) (id_row table row) row

turn_put : (backward : Bool) (table : Table) (rows : List Row) (laid : List (Row × Row)) → IsStrictlySortedBy row_cmp (keys_of laid) → turn backward (put_in table rows laid) ≡ put_by (way backward) table rows (turn backward laid)
turn_put backward table [] laid sorted = refl
turn_put backward table (row ∷ rows) laid sorted =
    turn_insert backward (id_row table row) row (put_in table rows laid) (sorted-put_in table rows laid sorted)
    ∙ ap (λ l. insert_entry (way backward) l (id_row table row) row) (turn_put backward table rows laid sorted)

put_alone : (R : Row → Row → Ordering) (table : Table) (rows : List Row) → InWay R table rows → put_by R table rows [] ≡ keyed table rows
unfolding IsStrictlySortedBy
put_alone R table [] sorted = refl
put_alone R table (row ∷ rows) sorted =
    ap (λ l. insert_entry R l (id_row table row) row) (put_alone R table rows sorted.1) ∙ insert_first R (id_row table row) row (keyed table rows) sorted.0

take_put : (R : Row → Row → Ordering) (table : Table) (rows : List Row) (n : ℕ) (laid : List (Row × Row)) → take n (put_by R table rows laid) ≡ take n (put_by R table rows (take n laid))
take_put R table [] n laid = sym (take-take n n laid (omega arith))
take_put R table (row ∷ rows) n laid =
    take_insert R n (put_by R table rows laid) (id_row table row) row
    ∙ ap (λ l. take n (insert_entry R l (id_row table row) row)) (take_put R table rows n laid)
    ∙ sym (take_insert R n (put_by R table rows (take n laid)) (id_row table row) row)

empty_sorted : IsStrictlySortedBy row_cmp (let none : List Row = [] in none)
unfolding IsStrictlySortedBy
empty_sorted = tt

put_turned : (backward : Bool) (table : Table) (rows : List Row) → InWay (way backward) table rows → turn backward (put_in table rows []) ≡ keyed table rows
put_turned backward table rows sorted =
    turn_put backward table rows [] empty_sorted ∙ ap (put_by (way backward) table rows) (turn_none backward) ∙ put_alone (way backward) table rows sorted

-- ---- rows below that are entered above

either : {A : Type 0} (p q : A → Bool) (xs : List A) → length (filter (λ x. p x || q x) xs) ≤ length (filter p xs) + length (filter q xs)
either p q [] = omega arith
either p q (x ∷ xs) = by_tests (p x) (q x) (either p q xs)
  where
    by_tests : (a b : Bool) → length (filter (λ x. p x || q x) xs) ≤ length (filter p xs) + length (filter q xs)
        → length (cond (a || b) (x ∷ filter (λ x. p x || q x) xs) (filter (λ x. p x || q x) xs)) ≤ length (cond a (x ∷ filter p xs) (filter p xs)) + length (cond b (x ∷ filter q xs) (filter q xs))
    by_tests true true later = omega arith
    by_tests true false later = omega arith
    by_tests false true later = omega arith
    by_tests false false later = later

none_same : {R : Row → Row → Ordering} (total : IsTotalOrder R) (table : Table) (k y : Row) (rows : List Row) → R k y ≡ Equal → AllByRecursion (λ z. R y z ≡ Less) (keys_of (keyed table rows))
    → filter (λ row. is_eq (R k (id_row table row))) rows ≡ []
none_same total table k y [] same above = refl
none_same total table k y (row ∷ rows) same above = rw (total.congr k y (id_row table row) same ∙ above.0) (none_same total table k y rows same above.1)

-- at most one row has an id
at_most_one : {R : Row → Row → Ordering} (total : IsTotalOrder R) (table : Table) (k : Row) (rows : List Row) → InWay R table rows → length (filter (λ row. is_eq (R k (id_row table row))) rows) ≤ 1
unfolding IsStrictlySortedBy
at_most_one total table k [] sorted = omega arith
at_most_one {R} total table k (row ∷ rows) sorted = by_order (R k (id_row table row)) (λ same. none_same total table k (id_row table row) rows same sorted.0) refl (at_most_one total table k rows sorted.1)
  where
    by_order : (o : Ordering) → (R k (id_row table row) ≡ Equal → filter (λ row. is_eq (R k (id_row table row))) rows ≡ []) → R k (id_row table row) ≡ o → length (filter (λ row. is_eq (R k (id_row table row))) rows) ≤ 1
        → length (cond (is_eq o) (row ∷ filter (λ row. is_eq (R k (id_row table row))) rows) (filter (λ row. is_eq (R k (id_row table row))) rows)) ≤ 1
    by_order Less none is later = later
    by_order Equal none is later = let no_more : length (filter (λ row. is_eq (R k (id_row table row))) rows) ≡ 0 = ap length (none is) in omega arith
    by_order Greater none is later = later

same_in_way : (backward : Bool) (a b : Row) → are_same a.values b.values ≡ is_eq (way backward a b)
same_in_way false a b = same_as_rows a b
same_in_way true a b = same_as_rows a b ∙ same_back row_cmp_total a b

filter_none : (rows : List Row) → filter (λ row. false) rows ≡ []
filter_none [] = refl
filter_none (row ∷ rows) = filter_none rows

few_entered : (backward : Bool) (table : Table) (entries : List Entry) (rows : List Row) → InWay (way backward) table rows → length (filter (λ row. is_entered entries (id_of table row)) rows) ≤ length entries
few_entered backward table [] rows sorted = let none : length (filter (λ (row : Row). false) rows) ≡ 0 = ap length (filter_none rows) in omega arith
few_entered backward table (e ∷ entries) rows sorted =
    let one : length (filter (λ row. are_same e.0.values (id_of table row)) rows) ≤ 1 =
    subst (λ n. n ≤ 1) (λ i. length (filter (λ row. sym (same_in_way backward e.0 (id_row table row)) i) rows)) (at_most_one (way_total backward) table e.0 rows sorted) in
    let others = few_entered backward table entries rows sorted in
    let both = either (λ (row : Row). are_same e.0.values (id_of table row)) (λ row. is_entered entries (id_of table row)) rows in
    omega arith

few_hidden : (backward : Bool) (table : Table) (entries : List Entry) (rows : List Row) → InWay (way backward) table rows → length rows ≤ length (untouched table entries rows) + length entries
few_hidden backward table entries rows sorted =
    let all = length-filter_both (λ (row : Row). is_entered entries (id_of table row)) (λ row. not (is_entered entries (id_of table row))) (λ row. refl) rows in
    let few = few_entered backward table entries rows sorted in
    omega arith

-- the first rows that aren't hidden are among as many more rows as there are entries
take_untouched : (backward : Bool) (table : Table) (entries : List Entry) (count : ℕ) (rows : List Row) → InWay (way backward) table rows
    → take count (untouched table entries (take (count + length entries) rows)) ≡ take count (untouched table entries rows)
take_untouched backward table entries count rows sorted = by_length (nat_lt (count + length entries) (length rows)) refl
  where
    by_length : (b : Bool) → nat_lt (count + length entries) (length rows) ≡ b → take count (untouched table entries (take (count + length entries) rows)) ≡ take count (untouched table entries rows)
    by_length false short = ap (λ l. take count (untouched table entries l)) (take_all (count + length entries) rows (ltb-false (count + length entries) (length rows) short))
    by_length true more =
        let less : count + length entries < length rows = ltb-true (count + length entries) (length rows) more in
        let as_many : length (take (count + length entries) rows) ≡ count + length entries = length-take-le (count + length entries) rows (omega arith) in
        let seen = few_hidden backward table entries (take (count + length entries) rows) (in_way_take (way backward) table (count + length entries) rows sorted) in
        let enough : count ≤ length (untouched table entries (take (count + length entries) rows)) = omega arith in
        sym (ap (λ l. take count (untouched table entries l)) (sym (take-append-drop (count + length entries) rows))
        ∙ ap (take count) (filter_append (λ row. not (is_entered entries (id_of table row))) (take (count + length entries) rows) (drop (count + length entries) rows))
        ∙ take-append-le count (untouched table entries (take (count + length entries) rows)) (untouched table entries (drop (count + length entries) rows)) enough)

-- ---- the law of pages

module _ (table : Table) (entries : List Entry) (from : Option Row) (backward : Bool) (count : ℕ) where
  abbrev entered_rows : List Row
  entered_rows = filter (is_from table from backward) (present entries)

  -- the first of these rows and of the entered ones, in the order of the page
  abbrev front : List Row → List Row
  front rows = values_of (take count (put_by (way backward) table entered_rows (keyed table rows)))

  front_cut : (rows : List Row) → front rows ≡ front (take count rows)
  front_cut rows =
      ap values_of (take_put (way backward) table entered_rows count (keyed table rows))
      ∙ ap (λ l. values_of (take count (put_by (way backward) table entered_rows l))) (take-map (λ row. (id_row table row, row)) count rows)

  laid_front : (laid : List (Row × Row)) (rows : List Row) → IsStrictlySortedBy row_cmp (keys_of laid) → turn backward laid ≡ keyed table rows
      → take count (turned backward (values_of (put_in table entered_rows laid))) ≡ front rows
  laid_front laid rows sorted is =
      ap (take count) (turned_is backward (values_of (put_in table entered_rows laid)) ∙ turn_map backward (λ e. e.1) (put_in table entered_rows laid))
      ∙ take-map (λ e. e.1) count (turn backward (put_in table entered_rows laid))
      ∙ ap (λ l. values_of (take count l)) (turn_put backward table entered_rows laid sorted ∙ ap (put_by (way backward) table entered_rows) is)

  page_front : (found : List Row) → InWay (way backward) table found → page_over table entries from backward count found ≡ front (untouched table entries found)
  page_front found sorted =
      laid_front (put_in table (untouched table entries found) []) (untouched table entries found)
      (sorted-put_in table (untouched table entries found) [] empty_sorted)
      (put_turned backward table (untouched table entries found) (in_way_untouched backward table entries found sorted))

  module _ (rows : List Row) (in_order : SortedEntries entries) (own : OwnIds table entries) (below : Sorted table rows) where
    abbrev asked : List Row
    asked = filter (is_from table from backward) rows

    asked_sorted : Sorted table asked
    asked_sorted = sorted-filter-rows table (is_from table from backward) rows below

    whole_front : page_among table from backward count (over_rows table entries rows) ≡ front (untouched table entries (turn backward asked))
    whole_front =
        ap (λ l. take count (turned backward l)) (sym (laid_seen table entries (is_from table from backward) rows in_order own below))
        ∙ laid_front (put_in table (untouched table entries asked) []) (untouched table entries (turn backward asked))
        (sorted-put_in table (untouched table entries asked) [] empty_sorted)
        (ap (turn backward) (put_turned false table (untouched table entries asked) (sorted-untouched table entries asked asked_sorted))
        ∙ turn_map backward (λ row. (id_row table row, row)) (untouched table entries asked)
        ∙ ap (keyed table) (turn_filter backward (λ row. not (is_entered entries (id_of table row))) asked))

    -- the first rows of all that are seen are those seen over as many more rows below as there are entries
    pub page_seen : page_over table entries from backward count (page_among table from backward (count + length entries) rows) ≡ page_among table from backward count (over_rows table entries rows)
    page_seen =
        let sorted : InWay (way backward) table (turn backward asked) = in_way backward table asked asked_sorted in
        ap (λ l. page_over table entries from backward count (take (count + length entries) l)) (turned_is backward asked)
        ∙ page_front (take (count + length entries) (turn backward asked)) (in_way_take (way backward) table (count + length entries) (turn backward asked) sorted)
        ∙ front_cut (untouched table entries (take (count + length entries) (turn backward asked)))
        ∙ ap front (take_untouched backward table entries count (turn backward asked) sorted)
        ∙ sym (front_cut (untouched table entries (turn backward asked)))
        ∙ sym whole_front

-- a page of fewer rows than a limit is the same for a count beyond the limit
pub taken_all : (wanted most limit : ℕ) (found rows : List Row) → most ≡ min wanted limit → length found < limit → found ≡ take most rows → found ≡ take wanted rows
taken_all wanted most limit found rows most_is few is = by_limit (nat_lt most wanted) refl
  where
    by_limit : (b : Bool) → nat_lt most wanted ≡ b → found ≡ take wanted rows
    by_limit false not_less = let least : wanted ≤ most = ltb-false most wanted not_less in let same : most ≡ wanted = omega arith in is ∙ ap (λ n. take n rows) same
    by_limit true less =
        let beyond : most < wanted = ltb-true most wanted less in
        let count : length found ≡ min most (length rows) = ap length is ∙ length-take most rows in
        let short : length rows < most = omega arith in
        is ∙ take_all most rows (omega arith) ∙ sym (take_all wanted rows (omega arith))

-- ---- what holds of each row holds of those of a page

both_true : (a b : Bool) → a ≡ true → b ≡ true → a && b ≡ true
both_true a b x y = rw (x, y) refl

module _ (p : Row → Bool) where
  all_taken : (n : ℕ) (rows : List Row) → list_all p rows ≡ true → list_all p (take n rows) ≡ true
  all_taken zero rows all = refl
  all_taken (suc n) [] all = refl
  all_taken (suc n) (row ∷ rows) all =
      let parts = and_parts (p row) (list_all p rows) all in
      both_true (p row) (list_all p (take n rows)) parts.0 (all_taken n rows parts.1)

  all_pushed : (rows : List Row) (row : Row) → list_all p rows ≡ true → p row ≡ true → list_all p (rows ++ row ∷ []) ≡ true
  all_pushed [] row all one = both_true (p row) true one refl
  all_pushed (first ∷ rows) row all one =
      let parts = and_parts (p first) (list_all p rows) all in
      both_true (p first) (list_all p (rows ++ row ∷ [])) parts.0 (all_pushed rows row parts.1 one)

  all_reversed : (rows : List Row) → list_all p rows ≡ true → list_all p (reverse rows) ≡ true
  all_reversed [] all = refl
  all_reversed (row ∷ rows) all =
      let parts = and_parts (p row) (list_all p rows) all in
      ap (list_all p) (reverse_first row rows) ∙ all_pushed (reverse rows) row (all_reversed rows parts.1) parts.0

  all_turned : (backward : Bool) (rows : List Row) → list_all p rows ≡ true → list_all p (turned backward rows) ≡ true
  all_turned false rows all = all
  all_turned true rows all = all_reversed rows all

  pub all_page : (table : Table) (entries : List Entry) (from : Option Row) (backward : Bool) (count : ℕ) (rows : List Row) → list_all p rows ≡ true → list_all p (present entries) ≡ true
      → list_all p (page_over table entries from backward count rows) ≡ true
  all_page table entries from backward count rows all there =
      all_taken count (turned backward (laid_over table entries (is_from table from backward) rows))
      (all_turned backward (laid_over table entries (is_from table from backward) rows) (all_laid p table entries (is_from table from backward) rows all there))
