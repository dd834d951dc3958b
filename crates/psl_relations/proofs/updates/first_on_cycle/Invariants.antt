use Rattle.std.proofs.Common.{◌≡◌, ℕ, List, not, map, drop}
use Rattle.psl_rules.specs.Parts.{first, earlier, failing}
use Rattle.psl_rules.specs.Relations.{End, end_place}
use Rattle.psl_rules.specs.Updates.{is_on_cycle}
use Rattle.psl_relations.proofs.updates.first_on_cycle.Given as goal

abbrev pub invariant-loop-arrow : goal.invariant-loop-arrow
invariant-loop-arrow l =
    let broken : List End → List ℕ = failing (λ arrow. not (is_on_cycle l.ranked arrow)) end_place in
    earlier l.found (first (broken (map (λ arrow. arrow.now) (drop l.arrow-index l.arrows)))) ≡ first (broken (map (λ arrow. arrow.now) l.arrows))
