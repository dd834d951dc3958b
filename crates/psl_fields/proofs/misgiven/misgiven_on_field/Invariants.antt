use Rattle.std.proofs.Common.{◌≡◌, drop}
use Rattle.psl_rules.specs.Parts.{first, earlier}
use Rattle.psl_rules.specs.Arguments.{field_parameters}
use Rattle.psl_rules.specs.Attributes.{misgiven}
use Rattle.psl_fields.proofs.misgiven.misgiven_on_field.Given as goal

abbrev pub invariant-loop-attribute : goal.invariant-loop-attribute
invariant-loop-attribute l = earlier l.found (first (misgiven field_parameters (drop l.attribute-index l.attributes))) ≡ first (misgiven field_parameters l.attributes)
