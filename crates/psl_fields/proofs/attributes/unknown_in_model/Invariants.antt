use Rattle.std.proofs.Common.{◌≡◌, drop}
use Rattle.psl_rules.specs.Parts.{first, earlier}
use Rattle.psl_rules.specs.Attributes.{unknown_in_model}
use Rattle.psl_fields.proofs.attributes.unknown_in_model.Given as goal

abbrev pub invariant-loop-entry : goal.invariant-loop-entry
invariant-loop-entry l = earlier l.found (first (unknown_in_model (record l.model { entries = drop l.entry-index l.entry-items }))) ≡ first (unknown_in_model l.model)
