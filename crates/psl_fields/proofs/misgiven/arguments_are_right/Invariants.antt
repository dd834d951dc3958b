use Rattle.std.proofs.Common.{◌≡◌, drop}
use Rattle.psl_rules.specs.Parts.{first, earlier}
use Rattle.psl_rules.specs.Attributes.{arguments_are_right}
use Rattle.psl_fields.proofs.misgiven.arguments_are_right.Given as goal

abbrev pub invariant-loop-block : goal.invariant-loop-block
invariant-loop-block l = earlier l.found (first (arguments_are_right (record l.tree { blocks = drop l.block-index l.block-items }))) ≡ first (arguments_are_right l.tree)
