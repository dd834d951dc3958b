-- Items that are looked up by their places.
use Rattle.std.proofs.Common.{◌≡◌, ℕ, ◌+◌, Bool, true, false, not, cond, List, [], ◌∷◌, map, length, get_or, Option, Some, None, is_some, refl, sym, ap, ◌∙◌, Bor}
use Rattle.std.proofs.lemmas.Bool.{ltb-true, ltb-false}
use Rattle.std.proofs.lemmas.List.{length-map}
use Rattle.std.proofs.lemmas.List.Folds.{find_at}
use Rattle.std.proofs.lemmas.Option.{slice_get_past, slice_get-get_or}
use Rattle.std.specs.Prelude.{position, nat_lt, slice_get, option_copied, IfSome}
use Rattle.std.specs.List.{prefix_len, find, position_or_len}

-- ---- among the things that are referred to

prefix_mapped : {A B : Type 0} (f : A → B) (p : B → Bool) (xs : List A) → prefix_len p (map f xs) ≡ prefix_len (λ x. p (f x)) xs
prefix_mapped f p [] = refl
prefix_mapped f p (x ∷ xs) = ap (λ n. cond (p (f x)) (1 + n) 0) (prefix_mapped f p xs)

place_within : ℕ → ℕ → Option ℕ
place_within at most = cond (nat_lt at most) (Some at) None

pub position_mapped : {A B : Type 0} (f : A → B) (p : B → Bool) (xs : List A) → position p (map f xs) ≡ position (λ x. p (f x)) xs
unfolding place_within
position_mapped f p xs =
    ap (λ at. place_within at (length (map f xs))) (prefix_mapped f (λ y. not (p y)) xs) ∙ ap (place_within (prefix_len (λ x. not (p (f x))) xs)) (length-map xs f)

-- ---- an item, by its place

same_place : (one other : ℕ) → Some one ≡ Some other → one ≡ other
same_place one other is = cc

pub found_at : {A : Type 0} (p : A → Bool) (xs : List A) (at : ℕ) → position p xs ≡ Some at → slice_get xs at ≡ find p xs
found_at p xs at is = by_test (nat_lt (position_or_len p xs) (length xs)) refl is
  where
    by_test : (b : Bool) → nat_lt (position_or_len p xs) (length xs) ≡ b → cond b (Some (position_or_len p xs)) None ≡ Some at → slice_get xs at ≡ find p xs
    by_test true within same = ap (slice_get xs) (sym (same_place (position_or_len p xs) at same)) ∙ sym (find_at p xs)
    by_test false within same = absurd cc

pub found_nowhere : {A : Type 0} (p : A → Bool) (xs : List A) → position p xs ≡ None → None ≡ find p xs
found_nowhere p xs is = by_test (nat_lt (position_or_len p xs) (length xs)) refl is
  where
    by_test : (b : Bool) → nat_lt (position_or_len p xs) (length xs) ≡ b → cond b (Some (position_or_len p xs)) None ≡ None → None ≡ find p xs
    by_test true within same = absurd cc
    by_test false within same = sym (slice_get_past xs (position_or_len p xs) (ltb-false (position_or_len p xs) (length xs) within)) ∙ sym (find_at p xs)

-- what is read at a place, or nothing behind the end
pub got_at : {A : Type 0} (got : Option (Bor A)) (xs : List A) (at : ℕ) → is_some got ≡ nat_lt at (length xs) → IfSome got (λ x. x.now ≡ get_or xs at x.now) → option_copied got ≡ slice_get xs at
got_at None xs at some same = sym (slice_get_past xs at (ltb-false at (length xs) (sym some)))
got_at (Some x) xs at some same = ap Some same ∙ sym (slice_get-get_or xs at x.now (ltb-true at (length xs) (sym some)))
