-- Where the reads of a host in memory began.
use Rattle.std.specs.Prelude.{◌≡◌, ℕ, Bool, nat_le, List, [], ◌∷◌, ◌++◌, Option, Some, IsSomeAnd, length, map, drop, take, unwrap_or}
use Rattle.std.specs.List.{list_all}
use Rattle.qe_base.specs.declared.outside.marks.Mark.{Mark}
use Rattle.qe_base.specs.Outside.{Turn}

-- no more than so many bytes had been taken at each
abbrev pub all_within : ℕ → List Mark → Bool
all_within most marks = list_all (λ (mark : Mark). nat_le mark.taken most) marks

-- the same of marks that may not be kept
abbrev pub are_within : ℕ → Option (List Mark) → Bool
are_within most marks = all_within most (unwrap_or marks [])

-- what a read began with, among the bytes to read and those that were written
abbrev pub turn_at : List ℕ → List ℕ → Mark → Turn
turn_at bytes written mark = record { left = Some (drop mark.given bytes); taken = Some (take mark.taken written) }

abbrev pub turns_at : List ℕ → List ℕ → List Mark → List Turn
turns_at bytes written marks = map (turn_at bytes written) marks

-- the marks of earlier reads and one more, of what was given and taken by then
abbrev pub AddsMark : Option (List Mark) → ℕ → Option (List ℕ) → List Mark → Type 0
AddsMark marks given taken all = IsSomeAnd marks (λ earlier. IsSomeAnd taken (λ bytes. all ≡ earlier ++ record { given = given; taken = length bytes } ∷ []))
