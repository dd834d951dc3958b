-- Lists that are parts of lists.
use Rattle.std.specs.Prelude.{List, [], ◌∷◌}

-- the first list is the second one, without some of its items
pub data IsPart {A : Type 0} : List A → List A → Type 0 where
  Empty : IsPart [] []
  With : {x : A} {xs ys : List A} → IsPart xs ys → IsPart (x ∷ xs) (x ∷ ys)
  Without : {y : A} {xs ys : List A} → IsPart xs ys → IsPart xs (y ∷ ys)
