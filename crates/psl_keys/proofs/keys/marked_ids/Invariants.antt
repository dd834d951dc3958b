use Rattle.std.proofs.Common.{◌≡◌, ◌++◌, map, drop}
use Rattle.std.specs.List.{filter_map}
use Rattle.psl_rules.specs.Parts.{field_of}
use Rattle.psl_rules.specs.Keys.{marked_ids}
use Rattle.psl_keys.proofs.keys.marked_ids.Given as goal

abbrev pub invariant-loop-entry : goal.invariant-loop-entry
invariant-loop-entry l = map (λ name. name.now) l.names.items ++ marked_ids (filter_map field_of (drop l.entry-index l.entry-items)) ≡ marked_ids (filter_map field_of l.entry-items)
