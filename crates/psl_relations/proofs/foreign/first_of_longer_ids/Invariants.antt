use Rattle.std.proofs.Common.{◌≡◌, drop}
use Rattle.psl_rules.specs.Parts.{first, earlier, failing}
use Rattle.psl_rules.specs.Relations.{pair_place}
use Rattle.psl_rules.specs.Foreign.{links_single_ids}
use Rattle.psl_relations.proofs.foreign.first_of_longer_ids.Given as goal

abbrev pub invariant-loop-pair : goal.invariant-loop-pair
invariant-loop-pair l = earlier l.found (first (failing links_single_ids pair_place (drop l.pair-index l.pairs))) ≡ first (failing links_single_ids pair_place l.pairs)
