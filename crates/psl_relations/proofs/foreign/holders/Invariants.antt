use Rattle.std.proofs.Common.{◌≡◌, ◌++◌, map, filter, drop}
use Rattle.psl_rules.specs.Relations.{has_fields}
use Rattle.psl_relations.proofs.foreign.holders.Given as goal

abbrev pub invariant-loop-end : goal.invariant-loop-end
invariant-loop-end l = map (λ end. end.now) l.held.items ++ filter has_fields (drop l.end-index l.ends) ≡ filter has_fields l.ends
