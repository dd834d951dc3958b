use Rattle.std.proofs.Common.{◌≡◌, ◌++◌, List, map, drop}
use Rattle.std.specs.List.{filter_map}
use Rattle.psl_rules.specs.Parts.{field_of}
use Rattle.psl_values.specs.Shown.{shown_field}
use Rattle.psl_values.proofs.numbered.Numbered.fields.Given as goal

abbrev pub invariant-loop-entry : goal.invariant-loop-entry
invariant-loop-entry l =
    l.fields ++ map (shown_field l.self l.model) (filter_map field_of (drop l.entry-index l.entry-items)) ≡ map (shown_field l.self l.model) (filter_map field_of l.entry-items)
