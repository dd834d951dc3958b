use Rattle.std.proofs.Common.{◌≡◌, drop}
use Rattle.std.specs.List.{filter_map}
use Rattle.psl_rules.specs.Parts.{first, earlier, field_of}
use Rattle.psl_keys.specs.Unfit.{unfit}
use Rattle.psl_keys.proofs.defaults.unfit_in_model.Given as goal

abbrev pub invariant-loop-entry : goal.invariant-loop-entry
invariant-loop-entry l =
    earlier l.found (first (unfit l.members (filter_map field_of (drop l.entry-index l.entry-items)))) ≡ first (unfit l.members (filter_map field_of l.entry-items))
