use Rattle.std.proofs.Common.{◌≡◌, ◌++◌, List, map, drop}
use Rattle.std.specs.List.{filter_map}
use Rattle.psl_text.specs.declared.tree.Name.{Name}
use Rattle.psl_text.specs.declared.tree.Entry.{Entry}
use Rattle.psl_rules.specs.Parts.{field_of}
use Rattle.psl_parts.proofs.names.field_names.Given as goal

abbrev pub invariant-loop-entry : goal.invariant-loop-entry
invariant-loop-entry l =
    map (λ name. name.now) l.names.items ++ map (λ field. field.name) (filter_map field_of (drop l.entry-index l.entry-items)) ≡ map (λ field. field.name) (filter_map field_of l.entry-items)
