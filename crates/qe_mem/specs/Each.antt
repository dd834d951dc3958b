-- Things that are changed by plans, the first one by the first plan.
use Rattle.std.specs.Prelude.{List, [], ◌∷◌}

abbrev pub each : {P T : Type 0} → (P → T → T) → List P → List T → List T
each by [] things = things
each by (plan ∷ plans) [] = []
each by (plan ∷ plans) (thing ∷ things) = by plan thing ∷ each by plans things

-- this holds of each plan and its thing, and each plan has one
abbrev pub AllOfBoth : {P T : Type 0} → (P → T → Type 0) → List P → List T → Type 0
AllOfBoth Q [] things = Unit {0}
AllOfBoth Q (plan ∷ plans) [] = ⊥
AllOfBoth Q (plan ∷ plans) (thing ∷ things) = Q plan thing × AllOfBoth Q plans things
