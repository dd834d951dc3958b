use Rattle.std.proofs.Common.{◌≡◌, ℕ, List, map, drop, Bor}
use Rattle.psl_rules.specs.Parts.{first, earlier, failing, models}
use Rattle.psl_rules.specs.Relations.{End, end_place}
use Rattle.psl_rules.specs.Foreign.{refers_to_key}
use Rattle.psl_relations.proofs.foreign.first_without_key.Given as goal

abbrev pub invariant-loop-end : goal.invariant-loop-end
invariant-loop-end l =
    let places : List (Bor End) → List ℕ = λ ends. failing (refers_to_key (models l.targets)) end_place (map (λ end. end.now) ends) in
    earlier l.found (first (places (drop l.end-index l.held))) ≡ first (places l.held)
