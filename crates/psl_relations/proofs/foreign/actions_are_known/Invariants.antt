use Rattle.std.proofs.Common.{◌≡◌, drop}
use Rattle.psl_rules.specs.Parts.{first, earlier, failing}
use Rattle.psl_rules.specs.Relations.{end_place}
use Rattle.psl_rules.specs.Foreign.{acts_rightly}
use Rattle.psl_relations.proofs.foreign.actions_are_known.Given as goal

abbrev pub invariant-loop-end : goal.invariant-loop-end
invariant-loop-end l = earlier l.found (first (failing acts_rightly end_place (drop l.end-index l.end-items))) ≡ first (failing acts_rightly end_place l.end-items)
