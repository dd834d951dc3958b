use Rattle.std.proofs.Common.{◌-◌, ◌^◌}
use Rattle.psl_relations.proofs.Walked.{Walked}
use Rattle.psl_relations.proofs.walks.reached_from.Given as goal

abbrev pub invariant-models : goal.invariant-models
invariant-models l = Walked l.outgoing l.from l.reached.keys l.next

abbrev pub decreases-models : goal.decreases-models
decreases-models l = 2 ^ 63 - l.next
