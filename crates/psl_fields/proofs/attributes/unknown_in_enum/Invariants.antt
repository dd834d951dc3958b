use Rattle.std.proofs.Common.{◌≡◌, drop}
use Rattle.psl_rules.specs.Parts.{first, earlier}
use Rattle.psl_rules.specs.Attributes.{unknown_in_enum}
use Rattle.psl_fields.proofs.attributes.unknown_in_enum.Given as goal

abbrev pub invariant-loop-entry : goal.invariant-loop-entry
invariant-loop-entry l = earlier l.found (first (unknown_in_enum (record l.block { entries = drop l.entry-index l.entry-items }))) ≡ first (unknown_in_enum l.block)
