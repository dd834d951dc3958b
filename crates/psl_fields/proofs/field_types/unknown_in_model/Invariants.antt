use Rattle.std.proofs.Common.{◌≡◌, drop}
use Rattle.psl_rules.specs.Parts.{first, earlier}
use Rattle.psl_rules.specs.Names.{unknown_types}
use Rattle.psl_fields.proofs.field_types.unknown_in_model.Given as goal

abbrev pub invariant-loop-entry : goal.invariant-loop-entry
invariant-loop-entry l = earlier l.found (first (unknown_types l.types (record l.model { entries = drop l.entry-index l.entry-items }))) ≡ first (unknown_types l.types l.model)
