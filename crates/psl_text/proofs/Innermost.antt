-- The brackets that are open.
use Rattle.std.proofs.Common.{◌≡◌, ◌-◌, List, [], ◌∷◌, ◌++◌, length, take, arith}
use Rattle.std.proofs.lemmas.Grind.{common_steps}

-- what is left without the last one
pub popped : {X : Type 0} (old new : List X) (last : X) → old ≡ new ++ last ∷ [] → new ≡ take (length old - 1) old
popped old new last e = grind (arith, common_steps)
