use Rattle.std.proofs.Common.{◌≡◌, ◌++◌}
use Rattle.psl_relations.proofs.key_sets.listed.Given as goal

abbrev pub invariant-loop-name : goal.invariant-loop-name
invariant-loop-name l = l.list.items ++ l.name-iterator ≡ l.set.keys
