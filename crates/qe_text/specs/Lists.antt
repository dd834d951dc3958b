-- Items of lists: that one is there, and those that repeat an earlier one.
use Rattle.std.specs.Prelude.{◌≡◌, ◌⊎◌, ℕ, List, [], ◌∷◌, ◌++◌, Bool, bytes_eq, if◌then◌else◌}
use Rattle.std.specs.List.{list_any}

-- an item is one of the list
unfoldable pub In : {A : Type 0} → A → List A → Type 0
In item [] = ⊥
In item (one ∷ items) = (item ≡ one) ⊎ In item items

-- the items that are the same as one of those before, or as one that stands before them
abbrev pub repeats_behind : {A : Type 0} → (A → A → Bool) → List A → List A → List A
repeats_behind same before [] = []
repeats_behind same before (item ∷ items) = if list_any (same item) before then item ∷ repeats_behind same (before ++ item ∷ []) items else repeats_behind same (before ++ item ∷ []) items

-- the items that are the same as one that stands before them
abbrev pub repeats : {A : Type 0} → (A → A → Bool) → List A → List A
repeats same = repeats_behind same []

-- the name is one of these
abbrev pub is_among : List ℕ → List (List ℕ) → Bool
is_among name = list_any (bytes_eq name)
