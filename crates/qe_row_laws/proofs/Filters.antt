-- Members, tests and filters of lists.
use Rattle.std.proofs.Common.{map, ◌≡◌, ◌⊎◌, inl, inr, ℕ, zero, suc, ◌+◌, ◌≤◌, ◌<◌, Bool, true, false, cond, filter, List, [], ◌∷◌, ◌++◌, length, refl, sym, ap, subst, ◌∙◌, arith}
use Rattle.std.specs.List.{list_any, list_all, flat_map, range_with_len, AllByRecursion}
use Rattle.std.proofs.lemmas.Bool.{and_parts, true≢false, or_cases, and_from, cases_order}
use Rattle.qe_text.specs.Lists.{In}
use Rattle.qe_schema.proofs.Members.{from_filter, in_filter, any_of, head_or, rest_of}

module _ {A : Type 0} where
  -- an item that passes the test
  pub record Passing (p : A → Bool) (xs : List A) : Type 0 where
    pub item : A
    pub member : In item xs
    pub passes : p item ≡ true

  pub any_in : (p : A → Bool) (xs : List A) → list_any p xs ≡ true → Passing p xs
  unfolding In
  any_in p [] is = absurd (true≢false (sym is))
  any_in p (x ∷ xs) is = by (λ rest. any_in p xs rest) (or_cases (p x) (list_any p xs) is)
    where
      by : (list_any p xs ≡ true → Passing p xs) → (p x ≡ true) ⊎ (list_any p xs ≡ true) → Passing p (x ∷ xs)
      by rest (inl here) = record { item = x; member = inl refl; passes = here }
      by rest (inr later) = let found = rest later in record { item = found.item; member = inr found.member; passes = found.passes }

  pub in_left : (xs ys : List A) (x : A) → In x xs → In x (xs ++ ys)
  unfolding In
  in_left [] ys x is_in = absurd is_in
  in_left (z ∷ xs) ys x (inl same) = inl same
  in_left (z ∷ xs) ys x (inr is_in) = inr (in_left xs ys x is_in)

  pub in_right : (xs ys : List A) (x : A) → In x ys → In x (xs ++ ys)
  unfolding In
  in_right [] ys x is_in = is_in
  in_right (z ∷ xs) ys x is_in = inr (in_right xs ys x is_in)

  pub shorter : (p : A → Bool) (xs : List A) → length (filter p xs) ≤ length xs
  shorter p [] = omega arith
  shorter p (x ∷ xs) = by (p x) (shorter p xs)
    where
      by : (b : Bool) → length (filter p xs) ≤ length xs → length (cond b (x ∷ filter p xs) (filter p xs)) ≤ suc (length xs)
      by true h = omega arith
      by false h = omega arith

  -- of two tests, one within the other
  module _ (p q : A → Bool) (within : (x : A) → p x ≡ true → q x ≡ true) where
    pub longer : (xs : List A) → length (filter p xs) ≤ length (filter q xs)
    longer [] = omega arith
    longer (x ∷ xs) = by (p x) refl (q x) refl (longer xs)
      where
        by : (b : Bool) → p x ≡ b → (c : Bool) → q x ≡ c → length (filter p xs) ≤ length (filter q xs) → length (cond b (x ∷ filter p xs) (filter p xs)) ≤ length (cond c (x ∷ filter q xs) (filter q xs))
        by true e true f h = omega arith
        by true e false f h = absurd (true≢false (sym (within x e) ∙ f))
        by false e true f h = omega arith
        by false e false f h = h

    -- where the wider one keeps no more, both keep the same
    pub as_many : (xs : List A) → length (filter q xs) ≤ length (filter p xs) → filter q xs ≡ filter p xs
    as_many [] h = refl
    as_many (x ∷ xs) h = by (λ g. as_many xs g) (p x) refl (q x) refl h
      where
        by : (length (filter q xs) ≤ length (filter p xs) → filter q xs ≡ filter p xs) → (b : Bool) → p x ≡ b → (c : Bool) → q x ≡ c
            → length (cond c (x ∷ filter q xs) (filter q xs)) ≤ length (cond b (x ∷ filter p xs) (filter p xs)) → cond c (x ∷ filter q xs) (filter q xs) ≡ cond b (x ∷ filter p xs) (filter p xs)
        by rest true e true f h = let g : length (filter q xs) ≤ length (filter p xs) = omega arith in ap (λ l. x ∷ l) (rest g)
        by rest true e false f h = absurd (true≢false (sym (within x e) ∙ f))
        by rest false e true f h = let g : length (filter p xs) ≤ length (filter q xs) = longer xs in absurd (omega arith)
        by rest false e false f h = rest h

    pub any_kept : (r : A → Bool) (xs : List A) → list_any r (filter p xs) ≡ true → list_any r (filter q xs) ≡ true
    any_kept r xs is =
        let found = any_in r (filter p xs) is in
        let both = from_filter p xs found.item found.member in
        any_of r (filter q xs) found.item (in_filter q xs found.item both.0 (within found.item both.1)) found.passes

-- ---- members of made lists

pub in_flat_map : {A B : Type 0} (f : A → List B) (xs : List A) (x : A) (y : B) → In x xs → In y (f x) → In y (flat_map f xs)
unfolding In
in_flat_map f [] x y is_in part = absurd is_in
in_flat_map f (z ∷ xs) x y (inl same) part = in_left (f z) (flat_map f xs) y (subst (λ w. In y (f w)) same part)
in_flat_map f (z ∷ xs) x y (inr is_in) part = in_right (f z) (flat_map f xs) y (in_flat_map f xs x y is_in part)

pub in_range : (n a k : ℕ) → a ≤ k → k < a + n → In k (range_with_len a n)
unfolding In
in_range zero a k h l = absurd (omega arith)
in_range (suc n) a k h l = by (λ g. in_range n (a + 1) k (omega arith) (omega arith)) (cases_order a k)
  where
    by : (a < k → In k (range_with_len (a + 1) n)) → ((a ≡ k) ⊎ ((a < k) ⊎ (k < a))) → In k (a ∷ range_with_len (a + 1) n)
    by rest (inl e) = inl (sym e)
    by rest (inr (inl g)) = inr (rest g)
    by rest (inr (inr g)) = absurd (omega arith)

pub range_in : (n a k : ℕ) → In k (range_with_len a n) → k < a + n
unfolding In
range_in zero a k is_in = absurd is_in
range_in (suc n) a k (inl same) = omega arith
range_in (suc n) a k (inr is_in) = let rest : k < (a + 1) + n = range_in n (a + 1) k is_in in omega arith

-- ---- lists of which some items go, and the others change

module _ {A : Type 0} (keep : A → Bool) (change : A → A) where
  pub all_left : (P Q : A → Type 0) (xs : List A) → ((x : A) → In x xs → P x → Q (change x)) → AllByRecursion P xs → AllByRecursion Q (map change (filter keep xs))
  unfolding In
  all_left P Q [] each all = tt
  all_left P Q (x ∷ xs) each all = by (keep x) (all_left P Q xs (λ y is_in. each y (inr is_in)) all.1)
    where
      by : (b : Bool) → AllByRecursion Q (map change (filter keep xs)) → AllByRecursion Q (map change (cond b (x ∷ filter keep xs) (filter keep xs)))
      by true rest = (each x (inl refl) all.0, rest)
      by false rest = rest

  pub tests_left : (p q : A → Bool) (xs : List A) → ((x : A) → p x ≡ true → q (change x) ≡ true) → list_all p xs ≡ true → list_all q (map change (filter keep xs)) ≡ true
  tests_left p q [] each all = refl
  tests_left p q (x ∷ xs) each all = let parts = and_parts (p x) (list_all p xs) all in by (keep x) parts.0 (tests_left p q xs each parts.1)
    where
      by : (b : Bool) → p x ≡ true → list_all q (map change (filter keep xs)) ≡ true → list_all q (map change (cond b (x ∷ filter keep xs) (filter keep xs))) ≡ true
      by true first rest = and_from (q (change x)) (list_all q (map change (filter keep xs))) (each x first) rest
      by false first rest = rest

-- ---- items

-- where two maps agree, they agree at each item
pub agree_at : {A B : Type 0} (f g : A → B) (xs : List A) → map f xs ≡ map g xs → (x : A) → In x xs → f x ≡ g x
unfolding In
agree_at f g [] same x is_in = absurd is_in
agree_at f g (one ∷ xs) same x (inl here) = ap f here ∙ ap (head_or (f one)) same ∙ sym (ap g here)
agree_at f g (one ∷ xs) same x (inr is_in) = agree_at f g xs (ap rest_of same) x is_in

pub first_in : {A : Type 0} (xs : List A) → 1 ≤ length xs → (x : A) × In x xs
unfolding In
first_in [] some = absurd (omega arith)
first_in (x ∷ xs) some = (x, inl refl)
