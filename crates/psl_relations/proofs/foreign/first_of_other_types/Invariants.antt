use Rattle.std.proofs.Common.{◌≡◌, ℕ, List, map, drop, Bor}
use Rattle.psl_rules.specs.Parts.{first, earlier, failing, models}
use Rattle.psl_rules.specs.Relations.{End, end_place}
use Rattle.psl_rules.specs.Foreign.{has_types_among}
use Rattle.psl_relations.proofs.foreign.first_of_other_types.Given as goal

abbrev pub invariant-loop-end : goal.invariant-loop-end
invariant-loop-end l =
    let places : List (Bor End) → List ℕ = λ ends. failing (has_types_among (models l.targets)) end_place (map (λ end. end.now) ends) in
    earlier l.found (first (places (drop l.end-index l.held))) ≡ first (places l.held)
