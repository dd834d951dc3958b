use Rattle.std.proofs.Common.{◌≡◌, drop}
use Rattle.psl_rules.specs.Parts.{first, earlier, failing}
use Rattle.psl_rules.specs.Relations.{is_pair, pair_place}
use Rattle.psl_relations.proofs.relations.first_broken_pair.Given as goal

abbrev pub invariant-loop-pair : goal.invariant-loop-pair
invariant-loop-pair l = earlier l.found (first (failing is_pair pair_place (drop l.pair-index l.pairs))) ≡ first (failing is_pair pair_place l.pairs)
