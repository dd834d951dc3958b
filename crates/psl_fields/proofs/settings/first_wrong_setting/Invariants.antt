use Rattle.std.proofs.Common.{◌≡◌, drop}
use Rattle.std.specs.List.{flat_map}
use Rattle.psl_rules.specs.Parts.{first, earlier}
use Rattle.psl_rules.specs.Settings.{wrong_setting}
use Rattle.psl_fields.proofs.settings.first_wrong_setting.Given as goal

abbrev pub invariant-loop-entry : goal.invariant-loop-entry
invariant-loop-entry l = earlier l.found (first (flat_map wrong_setting (drop l.entry-index l.entry-items))) ≡ first (flat_map wrong_setting l.entry-items)
