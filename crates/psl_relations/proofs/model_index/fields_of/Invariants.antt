use Rattle.std.proofs.Common.{◌≡◌, ◌++◌, drop}
use Rattle.std.specs.List.{filter_map}
use Rattle.psl_rules.specs.Parts.{field_of}
use Rattle.psl_relations.proofs.model_index.fields_of.Given as goal

abbrev pub invariant-loop-entry : goal.invariant-loop-entry
invariant-loop-entry l = l.found.items ++ filter_map field_of (drop l.entry-index l.entry-items) ≡ filter_map field_of l.entry-items
