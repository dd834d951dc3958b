use Rattle.std.proofs.Common.{◌≡◌, ◌++◌, map, filter, drop}
use Rattle.psl_rules.specs.Relations.{is_linked}
use Rattle.psl_values.proofs.link.linked.Given as goal

abbrev pub invariant-loop-pair : goal.invariant-loop-pair
invariant-loop-pair l = map (λ pair. pair.now) l.linked.items ++ filter is_linked (drop l.pair-index l.pairs) ≡ filter is_linked l.pairs
