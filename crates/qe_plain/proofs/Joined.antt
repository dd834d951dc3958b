-- An item between two lists.
use Rattle.std.proofs.Common.{◌≡◌, List, [], ◌∷◌, ◌++◌, refl, ap}

pub joined : {X : Type 0} (before behind : List X) (item : X) → (before ++ item ∷ []) ++ behind ≡ before ++ item ∷ behind
joined [] behind item = refl
joined (x ∷ before) behind item = ap (λ l. x ∷ l) (joined before behind item)
