-- Where reads began, when one more begins and when more is written.
use Rattle.std.proofs.Common.{◌≡◌, ℕ, ◌≤◌, ◌⊎◌, inl, inr, Bool, true, false, List, [], ◌∷◌, ◌++◌, Option, Some, None, option_map, if◌then◌else◌, length, drop, refl, ap, ◌∙◌, arith, length-append, IfSome, IsSomeAnd, nat_le, leb-true, le-leb}
use Rattle.std.proofs.lemmas.Bool.{and_from, and_parts}
use Rattle.std.proofs.lemmas.List.{map-append, take-append-le, take_all}
use Rattle.qe_base.specs.Marks.{all_within, are_within, turn_at, turns_at}
use Rattle.qe_base.specs.Outside.{Turn}
use Rattle.qe_base.specs.declared.outside.marks.Mark.{Mark}

-- what `with_mark` gives
abbrev pub IsMarked : Option (List Mark) → Option (List Mark) → ℕ → Option (List ℕ) → Type 0
IsMarked before after given taken = IfSome after (λ all. IsSomeAnd before (λ earlier. IsSomeAnd taken (λ kept. all ≡ earlier ++ record { given = given; taken = length kept } ∷ [])))

-- what a sink tells
abbrev pub told_of : Bool → List ℕ → Option (List ℕ)
told_of tells kept = if tells then Some kept else None

-- one mark more is one turn more
pub turn_marked : (before after : Option (List Mark)) (bytes now kept : List ℕ) (given : ℕ) (tells : Bool) → now ≡ bytes → IsMarked before after given (told_of tells kept)
    → IfSome (option_map (turns_at now kept) after) (λ turns. IsSomeAnd (option_map (turns_at bytes kept) before) (λ earlier. turns ≡ earlier ++ record { left = Some (drop given bytes); taken = told_of tells kept } ∷ []))
turn_marked before None bytes now kept given tells same marked = tt
turn_marked None (Some all) bytes now kept given tells same marked = absurd marked
turn_marked (Some earlier) (Some all) bytes now kept given false same marked = absurd marked
turn_marked (Some earlier) (Some all) bytes now kept given true same marked =
    ap (λ b. turns_at b kept all) same ∙ ap (turns_at bytes kept) marked ∙ map-append (turn_at bytes kept) earlier (record { given = given; taken = length kept } ∷ [])
    ∙ ap (λ (t : List ℕ). turns_at bytes kept earlier ++ record { left = Some (drop given bytes); taken = Some t } ∷ []) (take_all (length kept) kept (omega arith))

one_more : (most : ℕ) (marks : List Mark) (mark : Mark) → all_within most marks ≡ true → nat_le mark.taken most ≡ true → all_within most (marks ++ mark ∷ []) ≡ true
one_more most [] mark within here = and_from _ _ here refl
one_more most (first ∷ marks) mark within here =
    let both = and_parts (nat_le first.taken most) (all_within most marks) within in
    and_from (nat_le first.taken most) (all_within most (marks ++ mark ∷ [])) both.0 (one_more most marks mark both.1 here)

-- it is within what was taken
pub within_marked : (before after : Option (List Mark)) (kept : List ℕ) (given : ℕ) (tells : Bool) → IsMarked before after given (told_of tells kept) → are_within (length kept) before ≡ true → are_within (length kept) after ≡ true
within_marked before None kept given tells marked within = refl
within_marked None (Some all) kept given tells marked within = absurd marked
within_marked (Some earlier) (Some all) kept given false marked within = absurd marked
within_marked (Some earlier) (Some all) kept given true marked within =
    ap (all_within (length kept)) marked ∙ one_more (length kept) earlier (record { given = given; taken = length kept }) within (le-leb (length kept) (length kept) (omega arith))

-- when more is written, it is so still
still_within : (most more : ℕ) (marks : List Mark) → most ≤ more → all_within most marks ≡ true → all_within more marks ≡ true
still_within most more [] longer within = refl
still_within most more (mark ∷ marks) longer within =
    let both = and_parts (nat_le mark.taken most) (all_within most marks) within in
    and_from (nat_le mark.taken more) (all_within more marks) (le-leb mark.taken more (omega (arith, longer, leb-true mark.taken most both.0))) (still_within most more marks longer both.1)

longer_by : (before after piece : List ℕ) → (after ≡ before) ⊎ (after ≡ before ++ piece) → length before ≤ length after
longer_by before after piece (inl same) = omega (arith, ap length same)
longer_by before after piece (inr more) = omega (arith, ap length more, length-append before piece)

pub within_written : (before after piece : List ℕ) (marks : Option (List Mark)) → (after ≡ before) ⊎ (after ≡ before ++ piece) → are_within (length before) marks ≡ true → are_within (length after) marks ≡ true
within_written before after piece None keeps within = refl
within_written before after piece (Some marks) keeps within = still_within (length before) (length after) marks (longer_by before after piece keeps) within

more_written : (bytes before piece : List ℕ) (marks : List Mark) → all_within (length before) marks ≡ true → turns_at bytes (before ++ piece) marks ≡ turns_at bytes before marks
more_written bytes before piece [] within = refl
more_written bytes before piece (mark ∷ marks) within =
    let both = and_parts (nat_le mark.taken (length before)) (all_within (length before) marks) within in
    ap (λ (t : List ℕ). record { left = Some (drop mark.given bytes); taken = Some t } ∷ turns_at bytes (before ++ piece) marks) (take-append-le mark.taken before piece (leb-true mark.taken (length before) both.0))
    ∙ ap (λ (l : List Turn). turn_at bytes before mark ∷ l) (more_written bytes before piece marks both.1)

-- and the turns are the same
pub turns_written : (bytes before after piece : List ℕ) (marks : Option (List Mark)) → (after ≡ before) ⊎ (after ≡ before ++ piece) → are_within (length before) marks ≡ true → option_map (turns_at bytes after) marks ≡ option_map (turns_at bytes before) marks
turns_written bytes before after piece None keeps within = refl
turns_written bytes before after piece (Some marks) (inl same) within = ap (λ b. Some (turns_at bytes b marks)) same
turns_written bytes before after piece (Some marks) (inr more) within = ap (λ b. Some (turns_at bytes b marks)) more ∙ ap (λ (t : List Turn). Some t) (more_written bytes before piece marks within)
