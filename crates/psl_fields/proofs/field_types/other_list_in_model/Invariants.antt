use Rattle.std.proofs.Common.{◌≡◌, drop}
use Rattle.psl_rules.specs.Parts.{first, earlier}
use Rattle.psl_rules.specs.Names.{other_lists}
use Rattle.psl_fields.proofs.field_types.other_list_in_model.Given as goal

abbrev pub invariant-loop-entry : goal.invariant-loop-entry
invariant-loop-entry l = earlier l.found (first (other_lists l.types (record l.model { entries = drop l.entry-index l.entry-items }))) ≡ first (other_lists l.types l.model)
