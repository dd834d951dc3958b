-- Members of lists: of those that are made from others, and by their places.
use Rattle.std.proofs.Common.{◌≡◌, ◌⊎◌, inl, inr, ℕ, zero, suc, ◌+◌, ◌<◌, Bool, true, false, cond, not, ◌||◌, filter, List, [], ◌∷◌, ◌++◌, map, length, Some, None, unwrap_or, find, refl, sym, ap, subst, ◌∙◌, arith, true≢false, is_some}
use Rattle.std.proofs.lemmas.Bool.{and_parts}
use Rattle.std.specs.Prelude.{slice_get}
use Rattle.std.specs.List.{list_all, list_any, flat_map, enumerate_from, position_or_len}
use Rattle.qe_text.specs.Lists.{In}

-- an item, and that it is one of the list and gives this
pub record From {A B : Type 0} (f : A → B) (xs : List A) (y : B) : Type 0 where
  pub item : A
  pub member : In item xs
  pub gives : y ≡ f item

pub from_map : {A B : Type 0} (f : A → B) (xs : List A) (y : B) → In y (map f xs) → From f xs y
unfolding In
from_map f [] y is_in = absurd is_in
from_map f (x ∷ xs) y (inl same) = record { item = x; member = inl refl; gives = same }
from_map f (x ∷ xs) y (inr is_in) = let found = from_map f xs y is_in in record { item = found.item; member = inr found.member; gives = found.gives }

-- from the items behind their numbers
pub from_numbers : {A : Type 0} (number : ℕ) (xs : List A) (y : ℕ × A) → In y (enumerate_from number xs) → In y.1 xs
unfolding In
from_numbers number [] y is_in = absurd is_in
from_numbers {A = A} number (x ∷ xs) y (inl same) = inl (ap (λ (one : ℕ × A). one.1) same)
from_numbers number (x ∷ xs) y (inr is_in) = inr (from_numbers (number + 1) xs y is_in)

pub in_either : {A : Type 0} (xs ys : List A) (y : A) → In y (xs ++ ys) → In y xs ⊎ In y ys
unfolding In
in_either [] ys y is_in = inr is_in
in_either (x ∷ xs) ys y (inl same) = inl (inl same)
in_either (x ∷ xs) ys y (inr is_in) = behind (in_either xs ys y is_in)
  where
    behind : In y xs ⊎ In y ys → In y (x ∷ xs) ⊎ In y ys
    behind (inl front) = inl (inr front)
    behind (inr back) = inr back

-- an item, and that it is one of the list whose part this is one of
pub record FromEach {A B : Type 0} (f : A → List B) (xs : List A) (y : B) : Type 0 where
  pub item : A
  pub member : In item xs
  pub part : In y (f item)

pub from_flat_map : {A B : Type 0} (f : A → List B) (xs : List A) (y : B) → In y (flat_map f xs) → FromEach f xs y
unfolding In
from_flat_map f [] y is_in = absurd is_in
from_flat_map f (x ∷ xs) y is_in = behind (in_either (f x) (flat_map f xs) y is_in) (from_flat_map f xs y)
  where
    behind : In y (f x) ⊎ In y (flat_map f xs) → (In y (flat_map f xs) → FromEach f xs y) → FromEach f (x ∷ xs) y
    behind (inl front) rest = record { item = x; member = inl refl; part = front }
    behind (inr back) rest = let found = rest back in record { item = found.item; member = inr found.member; part = found.part }

pub from_filter : {A : Type 0} (p : A → Bool) (xs : List A) (y : A) → In y (filter p xs) → In y xs × (p y ≡ true)
unfolding In
from_filter p [] y is_in = absurd is_in
from_filter p (x ∷ xs) y is_in = by_test (p x) refl is_in (from_filter p xs y)
  where
    whole : (b : Bool) → p x ≡ b → In y (filter p (x ∷ xs)) → In y (cond b (x ∷ filter p xs) (filter p xs))
    whole b is is_in = subst (λ c. In y (cond c (x ∷ filter p xs) (filter p xs))) is is_in

    front : p x ≡ true → In y (x ∷ filter p xs) → (In y (filter p xs) → In y xs × (p y ≡ true)) → In y (x ∷ xs) × (p y ≡ true)
    front is (inl same) rest = (inl same, ap p same ∙ is)
    front is (inr is_in) rest = let found = rest is_in in (inr found.0, found.1)

    by_test : (b : Bool) → p x ≡ b → In y (filter p (x ∷ xs)) → (In y (filter p xs) → In y xs × (p y ≡ true)) → In y (x ∷ xs) × (p y ≡ true)
    by_test true is is_in rest = front is (whole true is is_in) rest
    by_test false is is_in rest = let found = rest (whole false is is_in) in (inr found.0, found.1)

-- what all items pass, each does
pub passes : {A : Type 0} (p : A → Bool) (xs : List A) (y : A) → list_all p xs ≡ true → In y xs → p y ≡ true
unfolding In
passes p [] y all is_in = absurd is_in
passes p (x ∷ xs) y all (inl same) = ap p same ∙ (and_parts (p x) (list_all p xs) all).0
passes p (x ∷ xs) y all (inr is_in) = passes p xs y (and_parts (p x) (list_all p xs) all).1 is_in

-- a list with an item isn't empty
pub some_items : {A : Type 0} (xs : List A) (y : A) → In y xs → 0 < length xs
unfolding In
some_items [] y is_in = absurd is_in
some_items (x ∷ xs) y is_in = omega arith

pub in_filter : {A : Type 0} (p : A → Bool) (xs : List A) (x : A) → In x xs → p x ≡ true → In x (filter p xs)
unfolding In
in_filter p [] x is_in passes = absurd is_in
in_filter p (one ∷ xs) x (inl same) passes = subst (λ b. In x (cond b (one ∷ filter p xs) (filter p xs))) (sym (sym (ap p same) ∙ passes)) (inl same)
in_filter p (one ∷ xs) x (inr is_in) passes = behind (p one) (in_filter p xs x is_in passes)
  where
    behind : (b : Bool) → In x (filter p xs) → In x (cond b (one ∷ filter p xs) (filter p xs))
    behind true rest = inr rest
    behind false rest = rest

pub any_of : {A : Type 0} (p : A → Bool) (xs : List A) (x : A) → In x xs → p x ≡ true → list_any p xs ≡ true
unfolding In
any_of p [] x is_in passes = absurd is_in
any_of p (one ∷ xs) x (inl same) passes = ap (λ b. b || list_any p xs) (sym (ap p same) ∙ passes)
any_of p (one ∷ xs) x (inr is_in) passes = or_true (p one) (list_any p xs) (any_of p xs x is_in passes)
  where
    or_true : (a b : Bool) → b ≡ true → (a || b) ≡ true
    or_true true b is = refl
    or_true false b is = is

pub in_map : {A B : Type 0} (f : A → B) (xs : List A) (x : A) → In x xs → In (f x) (map f xs)
unfolding In
in_map f [] x is_in = absurd is_in
in_map f (first ∷ xs) x (inl same) = inl (ap f same)
in_map f (first ∷ xs) x (inr is_in) = inr (in_map f xs x is_in)

one_more : (n : ℕ) → 1 + n ≡ suc n
one_more n = omega arith

-- the first item that passes, at its place
pub record First {A : Type 0} (p : A → Bool) (xs : List A) : Type 0 where
  pub item : A
  pub at : slice_get xs (position_or_len p xs) ≡ Some item
  pub passes : p item ≡ true
  pub within : position_or_len p xs < length xs
  pub member : In item xs

pub first_at : {A : Type 0} (p : A → Bool) (xs : List A) → list_any p xs ≡ true → First p xs
unfolding In
first_at p [] some = absurd (true≢false (sym some))
first_at p (x ∷ xs) some = by_test (p x) refl (first_at p xs)
  where
    front : (b : Bool) → p x ≡ b → position_or_len p (x ∷ xs) ≡ cond (not b) (1 + position_or_len p xs) 0
    front b is = ap (λ c. cond (not c) (1 + position_or_len p xs) 0) is

    by_test : (b : Bool) → p x ≡ b → (list_any p xs ≡ true → First p xs) → First p (x ∷ xs)
    by_test true is rest = record { item = x; at = ap (slice_get (x ∷ xs)) (front true is); passes = is; within = subst (λ n. n < suc (length xs)) (sym (front true is)) (omega arith); member = inl refl }
    by_test false is rest =
        let found = rest (sym (ap (λ b. b || list_any p xs) is) ∙ some) in
        let place : position_or_len p (x ∷ xs) ≡ suc (position_or_len p xs) = front false is ∙ one_more (position_or_len p xs) in
        let inside : position_or_len p xs < length xs = found.within in
        record { item = found.item; at = ap (slice_get (x ∷ xs)) place ∙ found.at; passes = found.passes; within = subst (λ n. n < suc (length xs)) (sym place) (omega arith); member = inr found.member }

pub in_place : {A : Type 0} (xs : List A) (n : ℕ) (x : A) → slice_get xs n ≡ Some x → In x xs
unfolding In
in_place [] n x is = absurd cc
in_place (y ∷ xs) zero x is = inl (sym (ap (λ o. unwrap_or o y) is))
in_place (y ∷ xs) (suc n) x is = inr (in_place xs n x is)

-- ---- what is found

pub some_same : {A : Type 0} (x y : A) → Some x ≡ Some y → x ≡ y
some_same x y same = ap (λ o. unwrap_or o x) same

pub not_some : {A : Type 0} (x : A) → None ≡ Some x → ⊥
not_some x same = true≢false (sym (ap is_some same))

pub found_passes : {A : Type 0} (p : A → Bool) (xs : List A) (x : A) → find p xs ≡ Some x → p x ≡ true
found_passes p [] x is = absurd cc
found_passes p (y ∷ xs) x is = by_test (p y) refl is (found_passes p xs x)
  where
    by_test : (b : Bool) → p y ≡ b → cond b (Some y) (find p xs) ≡ Some x → (find p xs ≡ Some x → p x ≡ true) → p x ≡ true
    by_test true passes is rest = ap p (sym (some_same _ _ is)) ∙ passes
    by_test false fails is rest = rest is

pub found_in : {A : Type 0} (p : A → Bool) (xs : List A) (x : A) → find p xs ≡ Some x → In x xs
unfolding In
found_in p [] x is = absurd cc
found_in p (y ∷ xs) x is = by_test (p y) is (found_in p xs x)
  where
    by_test : (b : Bool) → cond b (Some y) (find p xs) ≡ Some x → (find p xs ≡ Some x → In x xs) → In x (y ∷ xs)
    by_test true is rest = inl (sym (some_same _ _ is))
    by_test false is rest = inr (rest is)

-- ---- parts of lists

abbrev pub head_or : {A : Type 0} → A → List A → A
head_or x [] = x
head_or x (y ∷ ys) = y

abbrev pub rest_of : {A : Type 0} → List A → List A
rest_of [] = []
rest_of (y ∷ ys) = ys
