use Rattle.std.proofs.Common.{◌≡◌, drop}
use Rattle.psl_rules.specs.Parts.{attribute_named}
use Rattle.psl_parts.proofs.fields.attribute_named.Given as goal

abbrev pub invariant-loop-attribute : goal.invariant-loop-attribute
invariant-loop-attribute l = attribute_named l.name (drop l.attribute-index l.attributes) ≡ attribute_named l.name l.attributes
