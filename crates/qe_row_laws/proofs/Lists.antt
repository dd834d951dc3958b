-- Lists in which each item stands in a relation to those behind it.
use Rattle.std.proofs.Common.{◌≡◌, ◌⊎◌, inl, inr, Bool, true, false, cond, filter, List, [], ◌∷◌, ◌++◌, refl, sym, ap, subst, ◌∙◌}
use Rattle.std.specs.List.{list_all, list_any, AllByRecursion}
use Rattle.std.proofs.lemmas.Bool.{and_from, or_parts}
use Rattle.qe_text.specs.Lists.{In}
use Rattle.qe_schema.proofs.Members.{in_either, from_filter, passes}

-- ---- all items

pub all_in : {A : Type 0} (P : A → Type 0) (xs : List A) (x : A) → AllByRecursion P xs → In x xs → P x
unfolding In
all_in P [] x all is_in = absurd is_in
all_in P (y ∷ xs) x all (inl same) = subst P (sym same) all.0
all_in P (y ∷ xs) x all (inr is_in) = all_in P xs x all.1 is_in

pub all_from : {A : Type 0} (P : A → Type 0) (xs : List A) → ((x : A) → In x xs → P x) → AllByRecursion P xs
unfolding In
all_from P [] each = tt
all_from P (x ∷ xs) each = (each x (inl refl), all_from P xs (λ y is_in. each y (inr is_in)))

pub all_pass : {A : Type 0} (p : A → Bool) (xs : List A) → ((x : A) → In x xs → p x ≡ true) → list_all p xs ≡ true
unfolding In
all_pass p [] each = refl
all_pass p (x ∷ xs) each = and_from (p x) (list_all p xs) (each x (inl refl)) (all_pass p xs (λ y is_in. each y (inr is_in)))

pub none_in : {A : Type 0} (p : A → Bool) (xs : List A) (x : A) → list_any p xs ≡ false → In x xs → p x ≡ false
unfolding In
none_in p [] x none is_in = absurd is_in
none_in p (y ∷ xs) x none (inl same) = ap p same ∙ (or_parts (p y) (list_any p xs) none).0
none_in p (y ∷ xs) x none (inr is_in) = none_in p xs x (or_parts (p y) (list_any p xs) none).1 is_in

pub filter_all : {A : Type 0} (xs : List A) → filter (λ x. true) xs ≡ xs
filter_all [] = refl
filter_all (x ∷ xs) = ap (λ l. x ∷ l) (filter_all xs)

-- an item of a list with one in the midst
pub in_midst : {A : Type 0} (before behind : A → Bool) (x : A) (xs : List A) (y : A) → In y (filter before xs ++ x ∷ filter behind xs) → (y ≡ x) ⊎ In y xs
unfolding In
in_midst before behind x xs y is_in = by_side (in_either (filter before xs) (x ∷ filter behind xs) y is_in)
  where
    by_side : In y (filter before xs) ⊎ In y (x ∷ filter behind xs) → (y ≡ x) ⊎ In y xs
    by_side (inl front) = inr (from_filter before xs y front).0
    by_side (inr (inl same)) = inl same
    by_side (inr (inr back)) = inr (from_filter behind xs y back).0

-- what an item and all others pass, the list with that item in the midst does
pub all_with : {A : Type 0} (p : A → Bool) (before behind : A → Bool) (x : A) (xs : List A) → p x ≡ true → list_all p xs ≡ true → list_all p (filter before xs ++ x ∷ filter behind xs) ≡ true
all_with p before behind x xs one others = all_pass p (filter before xs ++ x ∷ filter behind xs) (λ y is_in. by_kind y (in_midst before behind x xs y is_in))
  where
    by_kind : (y : _) → (y ≡ x) ⊎ In y xs → p y ≡ true
    by_kind y (inl same) = ap p same ∙ one
    by_kind y (inr is_in) = passes p xs y others is_in

pub all_filtered : {A : Type 0} (p : A → Bool) (test : A → Bool) (xs : List A) → list_all p xs ≡ true → list_all p (filter test xs) ≡ true
all_filtered p test xs all = all_pass p (filter test xs) (λ y is_in. passes p xs y all (from_filter test xs y is_in).0)

-- ---- in pairs

-- each item stands in the relation to those behind it
abbrev pub Pairwise : {A : Type 0} → (A → A → Type 0) → List A → Type 0
Pairwise R [] = Unit {0}
Pairwise R (x ∷ xs) = AllByRecursion (R x) xs × Pairwise R xs

pub filtered : {A : Type 0} (R : A → A → Type 0) (p : A → Bool) (xs : List A) → Pairwise R xs → Pairwise R (filter p xs)
filtered R p [] all = tt
filtered R p (x ∷ xs) all = by_test (p x) (filtered R p xs all.1)
  where
    by_test : (b : Bool) → Pairwise R (filter p xs) → Pairwise R (cond b (x ∷ filter p xs) (filter p xs))
    by_test true rest = (all_from (R x) (filter p xs) (λ y is_in. all_in (R x) xs y all.0 (from_filter p xs y is_in).0), rest)
    by_test false rest = rest

pub appended : {A : Type 0} (R : A → A → Type 0) (xs ys : List A) → Pairwise R xs → Pairwise R ys → ((x y : A) → In x xs → In y ys → R x y) → Pairwise R (xs ++ ys)
unfolding In
appended R [] ys front back across = back
appended {A} R (x ∷ xs) ys front back across = (all_from (R x) (xs ++ ys) (λ y is_in. by_side y (in_either xs ys y is_in)), appended R xs ys front.1 back (λ y z in_front in_back. across y z (inr in_front) in_back))
  where
    by_side : (y : A) → In y xs ⊎ In y ys → R x y
    by_side y (inl is_in) = all_in (R x) xs y front.0 is_in
    by_side y (inr is_in) = across x y (inl refl) is_in

-- an item between those of the others that pass the one test and those that pass the other
pub inserted : {A : Type 0} (R : A → A → Type 0) (before behind : A → Bool) (x : A) (xs : List A) → Pairwise R xs → ((y : A) → In y xs → before y ≡ true → R y x) → ((y : A) → In y xs → behind y ≡ true → R x y)
    → ((y z : A) → In y xs → In z xs → before y ≡ true → behind z ≡ true → R y z) → Pairwise R (filter before xs ++ x ∷ filter behind xs)
unfolding In
inserted {A} R before behind x xs all front back across =
    appended R (filter before xs) (x ∷ filter behind xs) (filtered R before xs all) (all_from (R x) (filter behind xs) (λ y is_in. let found = from_filter behind xs y is_in in back y found.0 found.1), filtered R behind xs all)
    (λ y z in_front in_back. let found = from_filter before xs y in_front in by_side y z found.0 found.1 in_back)
  where
    by_side : (y z : A) → In y xs → before y ≡ true → In z (x ∷ filter behind xs) → R y z
    by_side y z is_in less (inl same) = subst (R y) (sym same) (front y is_in less)
    by_side y z is_in less (inr is_behind) = let found = from_filter behind xs z is_behind in across y z is_in found.0 less found.1

-- a relation that goes both ways holds of any two items, but of none and itself
pub either_way : {A : Type 0} (R : A → A → Type 0) (before behind : A → Bool) → ((x y : A) → R x y → R y x) → ((x : A) → before x ≡ true → behind x ≡ true → ⊥) → (xs : List A) → Pairwise R xs
    → (y z : A) → In y xs → In z xs → before y ≡ true → behind z ≡ true → R y z
unfolding In
either_way R before behind back apart [] all y z in_y in_z less more = absurd in_y
either_way R before behind back apart (x ∷ xs) all y z (inl same) (inl other) less more = absurd (apart x (ap before (sym same) ∙ less) (ap behind (sym other) ∙ more))
either_way R before behind back apart (x ∷ xs) all y z (inl same) (inr in_z) less more = subst (λ w. R w z) (sym same) (all_in (R x) xs z all.0 in_z)
either_way R before behind back apart (x ∷ xs) all y z (inr in_y) (inl other) less more = subst (R y) (sym other) (back x y (all_in (R x) xs y all.0 in_y))
either_way R before behind back apart (x ∷ xs) all y z (inr in_y) (inr in_z) less more = either_way R before behind back apart xs all.1 y z in_y in_z less more
