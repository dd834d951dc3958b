-- Texts that are the same but for case.
use Rattle.std.proofs.Common.{◌≡◌, ◌↔◌, ◌<◌, ℕ, Bool, true, false, IsTrue, List, [], ◌∷◌, map, length, refl, sym, arith, true≢false}
use Rattle.std.specs.Cmp.Lexicographic.{pointwise}
use Rattle.std.specs.Char.{eq_ignore_ascii_case, to_ascii_lowercase}

same_lowered : (xs ys : List ℕ) → map to_ascii_lowercase xs ≡ map to_ascii_lowercase ys → pointwise eq_ignore_ascii_case xs ys ≡ true
same_lowered [] [] h = refl
same_lowered [] (y ∷ ys) h = grind (arith, h)
same_lowered (x ∷ xs) [] h = grind (arith, h)
same_lowered (x ∷ xs) (y ∷ ys) h = grind (arith, h, same_lowered xs ys)

lowered_same : (xs ys : List ℕ) → pointwise eq_ignore_ascii_case xs ys ≡ true → map to_ascii_lowercase xs ≡ map to_ascii_lowercase ys
lowered_same [] [] h = refl
lowered_same [] (y ∷ ys) h = grind (arith, h)
lowered_same (x ∷ xs) [] h = grind (arith, h)
lowered_same (x ∷ xs) (y ∷ ys) h = grind (arith, h, lowered_same xs ys)

-- two are alike just where their small letters are the same
pub alike : (xs ys : List ℕ) (r : Bool) → (IsTrue r ↔ (map to_ascii_lowercase xs ≡ map to_ascii_lowercase ys)) → r ≡ pointwise eq_ignore_ascii_case xs ys
alike xs ys true same = sym (same_lowered xs ys (same.0 refl))
alike xs ys false same = by_test (pointwise eq_ignore_ascii_case xs ys) refl
  where
    by_test : (b : Bool) → pointwise eq_ignore_ascii_case xs ys ≡ b → false ≡ b
    by_test true is = absurd (true≢false (sym (same.1 (lowered_same xs ys is))))
    by_test false is = refl

-- a longer text isn't alike
pub longer_differs : (xs ys : List ℕ) → length ys < length xs → pointwise eq_ignore_ascii_case xs ys ≡ false
longer_differs [] [] h = absurd (omega (h, arith))
longer_differs [] (y ∷ ys) h = absurd (omega (h, arith))
longer_differs (x ∷ xs) [] h = refl
longer_differs (x ∷ xs) (y ∷ ys) h = grind (arith, h, longer_differs xs ys)
