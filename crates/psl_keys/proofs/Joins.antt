-- Names joined by a byte.
use Rattle.std.proofs.Common.{◌≡◌, ◌≤◌, ◌-◌, ℕ, List, [], ◌∷◌, ◌++◌, map, take, drop, length, get_or, refl, sym, ap, ◌∙◌, append-nil, arith, Bor}
use Rattle.std.proofs.lemmas.List.{take_rest}
use Rattle.std.specs.List.{join_with_byte}

-- names, with an underscore before each
abbrev pub behind : List (List ℕ) → List ℕ
behind [] = []
behind (name ∷ names) = (95 ∷ []) ++ (name ++ behind names)

pub joined_is : (name : List ℕ) (names : List (List ℕ)) → name ++ behind names ≡ join_with_byte 95 (name ∷ names)
joined_is name [] = append-nil name
joined_is name (next ∷ names) = ap (λ rest. name ++ (95 ∷ rest)) (joined_is next names)

-- of a slice's first name and its others
pub joined_slice : (names : List (Bor (List ℕ))) (d : Bor (List ℕ)) → 1 ≤ length names → (get_or names 0 d).now ++ behind (map (λ name. name.now) (take (length names - 1) (drop 1 names))) ≡ join_with_byte 95 (map (λ name. name.now) names)
joined_slice [] d some = absurd (omega arith)
joined_slice (name ∷ names) d some = ap (λ rest. name.now ++ behind (map (λ name. name.now) rest)) (take_rest (name ∷ names) 1) ∙ joined_is name.now (map (λ name. name.now) names)
