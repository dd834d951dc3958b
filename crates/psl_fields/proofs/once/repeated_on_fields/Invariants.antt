use Rattle.std.proofs.Common.{◌≡◌, drop}
use Rattle.std.specs.List.{flat_map, filter_map}
use Rattle.psl_rules.specs.Parts.{first, earlier, field_of}
use Rattle.psl_rules.specs.Attributes.{repeated}
use Rattle.psl_fields.proofs.once.repeated_on_fields.Given as goal

abbrev pub invariant-loop-entry : goal.invariant-loop-entry
invariant-loop-entry l =
    earlier l.found (first (flat_map (λ field. repeated field.attributes) (filter_map field_of (drop l.entry-index l.entry-items))))
    ≡ first (flat_map (λ field. repeated field.attributes) (filter_map field_of l.entry-items))
