use Rattle.std.proofs.Common.{◌≡◌, ◌++◌, map, drop}
use Rattle.psl_rules.specs.Stored.{lowered}
use Rattle.psl_relations.proofs.stored.all_lowered.Given as goal

abbrev pub invariant-loop-name : goal.invariant-loop-name
invariant-loop-name l = l.low.items ++ map lowered (drop l.name-index l.names) ≡ map lowered l.names
