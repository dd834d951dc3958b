use Rattle.std.proofs.Common.{◌≡◌, ◌++◌, map, drop}
use Rattle.psl_rules.specs.Relations.{pairs_with}
use Rattle.psl_relations.proofs.relations.push_pairs.Given as goal

abbrev pub invariant-loop-other : goal.invariant-loop-other
invariant-loop-other l =
    l.pairs.items ++ pairs_with l.end (map (λ other. other.now) (drop l.other-index l.partners)) ≡ l.fn.pairs.items ++ pairs_with l.end (map (λ other. other.now) l.partners)
