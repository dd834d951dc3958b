use Rattle.std.proofs.Common.{◌≡◌, drop}
use Rattle.psl_rules.specs.Parts.{first, earlier}
use Rattle.psl_rules.specs.Attributes.{attributes_stand_once}
use Rattle.psl_fields.proofs.once.attributes_stand_once.Given as goal

abbrev pub invariant-loop-block : goal.invariant-loop-block
invariant-loop-block l = earlier l.found (first (attributes_stand_once (record l.tree { blocks = drop l.block-index l.block-items }))) ≡ first (attributes_stand_once l.tree)
