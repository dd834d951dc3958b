use Rattle.std.proofs.Common.{◌≡◌, ◌++◌, map, drop}
use Rattle.psl_relations.proofs.Gathered.{others}
use Rattle.psl_relations.proofs.relations.partners.Given as goal

abbrev pub invariant-loop-other : goal.invariant-loop-other
invariant-loop-other l = map (λ other. other.now) l.found.items ++ others l.end (drop l.other-index l.other-items) ≡ others l.end l.other-items
