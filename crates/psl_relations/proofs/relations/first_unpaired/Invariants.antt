use Rattle.std.proofs.Common.{◌≡◌, drop}
use Rattle.psl_rules.specs.Parts.{first, earlier, failing}
use Rattle.psl_rules.specs.Relations.{has_one_partner, end_place}
use Rattle.psl_relations.proofs.relations.first_unpaired.Given as goal

abbrev pub invariant-loop-end : goal.invariant-loop-end
invariant-loop-end l = earlier l.found (first (failing (has_one_partner l.ends) end_place (drop l.end-index l.ends))) ≡ first (failing (has_one_partner l.ends) end_place l.ends)
