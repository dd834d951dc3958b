use Rattle.std.proofs.Common.{◌≡◌, ◌++◌, map, drop}
use Rattle.psl_rules.specs.Updates.{step_of}
use Rattle.psl_relations.proofs.updates.steps.Given as goal

abbrev pub invariant-loop-arrow : goal.invariant-loop-arrow
invariant-loop-arrow l = l.steps.items ++ map step_of (map (λ arrow. arrow.now) (drop l.arrow-index l.arrows)) ≡ map step_of (map (λ arrow. arrow.now) l.arrows)
