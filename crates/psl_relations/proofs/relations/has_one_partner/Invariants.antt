use Rattle.std.proofs.Common.{◌≡◌, false, drop}
use Rattle.psl_relations.proofs.Gathered.{is_one, others}
use Rattle.psl_relations.proofs.relations.has_one_partner.Given as goal

abbrev pub invariant-loop-other : goal.invariant-loop-other
invariant-loop-other l = is_one l.found (others l.end (drop l.other-index l.other-items)) ≡ is_one false (others l.end l.other-items)
