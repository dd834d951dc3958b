use Rattle.std.proofs.Common.{◌≡◌, drop}
use Rattle.psl_rules.specs.Stored.{mapped}
use Rattle.psl_columns.proofs.column.mapped_field.Given as goal

abbrev pub invariant-loop-attribute : goal.invariant-loop-attribute
invariant-loop-attribute l = mapped l.own (drop l.attribute-index l.attributes) ≡ mapped l.own l.attributes
