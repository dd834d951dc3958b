use Rattle.psl_parts.proofs.Distinct.{Turns}
use Rattle.psl_parts.proofs.repeats.stand_once.Given as goal

abbrev pub invariant-loop-name : goal.invariant-loop-name
invariant-loop-name l = Turns l.names l.name-index l.seen.keys
