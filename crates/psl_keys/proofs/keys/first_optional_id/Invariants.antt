use Rattle.std.proofs.Common.{◌≡◌, drop}
use Rattle.std.specs.List.{filter_map}
use Rattle.psl_rules.specs.Parts.{first, earlier, field_of}
use Rattle.psl_rules.specs.Keys.{optional_ids}
use Rattle.psl_keys.proofs.keys.first_optional_id.Given as goal

abbrev pub invariant-loop-entry : goal.invariant-loop-entry
invariant-loop-entry l =
    earlier l.found (first (optional_ids l.named (filter_map field_of (drop l.entry-index l.entry-items)))) ≡ first (optional_ids l.named (filter_map field_of l.entry-items))
