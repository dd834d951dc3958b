-- The first of the names beyond a limit.
use Rattle.std.proofs.Common.{◌≡◌, ℕ, zero, suc, arith, ◌<◌, ◌≤◌, List, [], ◌∷◌, map, length, get_or, Some, None, refl, Bor}
use Rattle.psl_text.specs.declared.tree.Name.{Name}
use Rattle.psl_rules.specs.Parts.{first}
use Rattle.psl_rules.specs.Stored.{beyond}

pub next_beyond : (most : ℕ) (names : List (Bor Name)) (name : Bor Name) → most < length names → Some (get_or names most name).now.at ≡ first (beyond most (map (λ name. name.now) names))
next_beyond most [] name within = absurd (omega arith)
next_beyond zero (one ∷ names) name within = refl
next_beyond (suc most) (one ∷ names) name within = next_beyond most names name (omega arith)

pub none_beyond : (most : ℕ) (names : List (Bor Name)) → length names ≤ most → None ≡ first (beyond most (map (λ name. name.now) names))
none_beyond zero [] few = refl
none_beyond (suc most) [] few = refl
none_beyond zero (one ∷ names) few = absurd (omega arith)
none_beyond (suc most) (one ∷ names) few = none_beyond most names (omega arith)
