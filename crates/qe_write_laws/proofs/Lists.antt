-- Lists, their tests and their members.
use Rattle.std.proofs.Common.{◌≡◌, inl, inr, ℕ, zero, suc, ◌+◌, Bool, true, false, ◌||◌, ◌==◌, List, [], ◌∷◌, ◌++◌, map, find, cond, length, zip, Option, Some, None, IfSome, option_map, is_some, slice_get, refl, sym, ap, ◌∙◌, arith, true≢false}
use Rattle.std.specs.List.{list_all, list_any, AllByRecursion, enumerate_from}
use Rattle.std.proofs.lemmas.Bool.{and_parts, and_from, eqb-true, eq-eqb}
use Rattle.qe_text.specs.Lists.{In}

-- ---- truth values

pub same_numbers : (n : ℕ) → (n == n) ≡ true
same_numbers n = eq-eqb n n refl

-- ---- members

found_behind : {A : Type 0} (x : A) (xs : List A) (o : Option A) → IfSome o (λ y. In y xs) → IfSome o (λ y. In y (x ∷ xs))
unfolding In
found_behind x xs None rest = tt
found_behind x xs (Some y) rest = inr rest

found_at : {A : Type 0} (x : A) (xs : List A) (o : Option A) (b : Bool) → IfSome o (λ y. In y xs) → IfSome (cond b (Some x) o) (λ y. In y (x ∷ xs))
unfolding In
found_at x xs o true rest = inl refl
found_at x xs o false rest = found_behind x xs o rest

pub in_find : {A : Type 0} (p : A → Bool) (xs : List A) → IfSome (find p xs) (λ x. In x xs)
in_find p [] = tt
in_find p (x ∷ xs) = found_at x xs (find p xs) (p x) (in_find p xs)

-- ---- all items

pub all_push : {A : Type 0} (P : A → Type 0) (xs : List A) (x : A) → AllByRecursion P xs → P x → AllByRecursion P (xs ++ x ∷ [])
all_push P [] x all one = (one, tt)
all_push P (y ∷ ys) x all one = (all.0, all_push P ys x all.1 one)

pub all_with : {A : Type 0} (P Q R : A → Type 0) (xs : List A) → ((x : A) → P x → Q x → R x) → AllByRecursion P xs → AllByRecursion Q xs → AllByRecursion R xs
all_with P Q R [] both ps qs = tt
all_with P Q R (x ∷ xs) both ps qs = (both x ps.0 qs.0, all_with P Q R xs both ps.1 qs.1)

pub all_from_test : {A : Type 0} (p : A → Bool) (xs : List A) → list_all p xs ≡ true → AllByRecursion (λ x. p x ≡ true) xs
all_from_test p [] all = tt
all_from_test p (x ∷ xs) all = let parts = and_parts (p x) (list_all p xs) all in (parts.0, all_from_test p xs parts.1)

pub all_append : {A : Type 0} (p : A → Bool) (xs ys : List A) → list_all p xs ≡ true → list_all p ys ≡ true → list_all p (xs ++ ys) ≡ true
all_append p [] ys first second = second
all_append p (x ∷ xs) ys first second = let parts = and_parts (p x) (list_all p xs) first in and_from (p x) (list_all p (xs ++ ys)) parts.0 (all_append p xs ys parts.1 second)

-- ---- maps and pairs

pub map_append : {A B : Type 0} (f : A → B) (xs ys : List A) → map f (xs ++ ys) ≡ map f xs ++ map f ys
map_append f [] ys = refl
map_append f (x ∷ xs) ys = ap (λ rest. f x ∷ rest) (map_append f xs ys)

pub map_both : {A B C D : Type 0} (f : B → D) (g : A → B) (h : C → D) (k : A → C) → ((x : A) → f (g x) ≡ h (k x)) → (xs : List A) → map f (map g xs) ≡ map h (map k xs)
map_both f g h k same [] = refl
map_both f g h k same (x ∷ xs) = λ i. same x i ∷ map_both f g h k same xs i

pub firsts : {A B : Type 0} (xs : List A) (ys : List B) → length xs ≡ length ys → map (λ pair. pair.0) (zip xs ys) ≡ xs
firsts [] [] same = refl
firsts [] (y ∷ ys) same = refl
firsts (x ∷ xs) [] same = absurd (omega arith)
firsts (x ∷ xs) (y ∷ ys) same = ap (λ rest. x ∷ rest) (firsts xs ys (omega arith))

pub seconds_from : {A : Type 0} (start : ℕ) (xs : List A) → map (λ numbered. numbered.1) (enumerate_from start xs) ≡ xs
seconds_from start [] = refl
seconds_from start (x ∷ xs) = ap (λ rest. x ∷ rest) (seconds_from (start + 1) xs)

-- each numbered item is the one at its number
pub numbered_from : {A : Type 0} (whole : List A) (start : ℕ) (xs : List A) → ((i : ℕ) → slice_get whole (start + i) ≡ slice_get xs i) → AllByRecursion (λ numbered. slice_get whole numbered.0 ≡ Some numbered.1) (enumerate_from start xs)
numbered_from whole start [] at = tt
numbered_from whole start (x ∷ xs) at =
    (ap (slice_get whole) (sym (plus_zero start)) ∙ at zero, numbered_from whole (start + 1) xs (λ i. ap (slice_get whole) (one_further start i) ∙ at (suc i)))
  where
    plus_zero : (n : ℕ) → n + 0 ≡ n
    plus_zero n = omega arith

    one_further : (n i : ℕ) → n + 1 + i ≡ n + suc i
    one_further n i = omega arith

pub numbered : {A : Type 0} (xs : List A) → AllByRecursion (λ numbered. slice_get xs numbered.0 ≡ Some numbered.1) (enumerate_from 0 xs)
numbered xs = numbered_from xs 0 xs (λ i. ap (slice_get xs) (from_zero i))
  where
    from_zero : (n : ℕ) → 0 + n ≡ n
    from_zero n = omega arith

-- ---- what stands for a number

-- it passes what all entries pass
pub entry_passes : {A : Type 0} (p : (ℕ × A) → Bool) (number : ℕ) (entries : List (ℕ × A)) → list_all p entries ≡ true → IfSome (option_map (λ one. one.1) (find (λ one. one.0 == number) entries)) (λ a. p (number, a) ≡ true)
entry_passes p number [] all = tt
entry_passes p number (one ∷ rest) all = by_test (one.0 == number) refl (entry_passes p number rest parts.1)
  where
    parts : (p one ≡ true) × (list_all p rest ≡ true)
    parts = and_parts (p one) (list_all p rest) all

    by_test : (b : Bool) → (one.0 == number) ≡ b → IfSome (option_map (λ other. other.1) (find (λ other. other.0 == number) rest)) (λ a. p (number, a) ≡ true) → IfSome (option_map (λ other. other.1) (cond b (Some one) (find (λ other. other.0 == number) rest))) (λ a. p (number, a) ≡ true)
    by_test true is behind = ap (λ n. p (n, one.1)) (sym (eqb-true one.0 number is)) ∙ parts.0
    by_test false is behind = behind

-- there is one where the number is among the first ones
pub entry_there : {A : Type 0} (number : ℕ) (entries : List (ℕ × A)) → list_any (λ other. other == number) (map (λ one. one.0) entries) ≡ true → option_map (λ one. one.1) (find (λ one. one.0 == number) entries) ≡ None → ⊥
entry_there number [] some none = true≢false (sym some)
entry_there number (one ∷ rest) some none = by_test (one.0 == number) refl none (entry_there number rest)
  where
    by_test : (b : Bool) → (one.0 == number) ≡ b → option_map (λ other. other.1) (cond b (Some one) (find (λ other. other.0 == number) rest)) ≡ None → (list_any (λ other. other == number) (map (λ other. other.0) rest) ≡ true → option_map (λ other. other.1) (find (λ other. other.0 == number) rest) ≡ None → ⊥) → ⊥
    by_test true is nothing behind = true≢false (ap is_some nothing)
    by_test false is nothing behind = behind (ap (λ b. b || list_any (λ other. other == number) (map (λ other. other.0) rest)) (sym is) ∙ some) nothing
