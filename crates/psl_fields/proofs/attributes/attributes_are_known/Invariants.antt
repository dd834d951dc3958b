use Rattle.std.proofs.Common.{◌≡◌, drop}
use Rattle.psl_rules.specs.Parts.{first, earlier}
use Rattle.psl_rules.specs.Attributes.{attributes_are_known}
use Rattle.psl_fields.proofs.attributes.attributes_are_known.Given as goal

abbrev pub invariant-loop-block : goal.invariant-loop-block
invariant-loop-block l = earlier l.found (first (attributes_are_known (record l.tree { blocks = drop l.block-index l.block-items }))) ≡ first (attributes_are_known l.tree)
