use Rattle.std.proofs.Common.{◌≡◌, drop}
use Rattle.std.specs.List.{filter_map}
use Rattle.psl_rules.specs.Parts.{first, earlier, field_of}
use Rattle.psl_rules.specs.Attributes.{wrong_on_fields}
use Rattle.psl_fields.proofs.standing.wrong_on_fields.Given as goal

abbrev pub invariant-loop-entry : goal.invariant-loop-entry
invariant-loop-entry l = earlier l.found (first (wrong_on_fields l.types (filter_map field_of (drop l.entry-index l.entry-items)))) ≡ first (wrong_on_fields l.types (filter_map field_of l.entry-items))
