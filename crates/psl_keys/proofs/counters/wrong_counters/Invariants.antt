use Rattle.std.proofs.Common.{◌≡◌, map, drop}
use Rattle.std.specs.List.{filter_map}
use Rattle.psl_rules.specs.Parts.{first, earlier, field_of}
use Rattle.psl_rules.specs.Defaults.{wrong_counters}
use Rattle.psl_keys.proofs.counters.wrong_counters.Given as goal

abbrev pub invariant-loop-entry : goal.invariant-loop-entry
invariant-loop-entry l =
    let ids = map (λ id. id.now) l.ids in
    earlier l.found (first (wrong_counters ids (filter_map field_of (drop l.entry-index l.entry-items)))) ≡ first (wrong_counters ids (filter_map field_of l.entry-items))
