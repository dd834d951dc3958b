use Rattle.std.proofs.Common.{◌≡◌, ◌++◌, List, map, filter, drop}
use Rattle.std.specs.List.{filter_map}
use Rattle.psl_text.specs.declared.tree.Entry.{Entry}
use Rattle.psl_text.specs.declared.tree.Name.{Name}
use Rattle.psl_rules.specs.Parts.{field_of}
use Rattle.psl_rules.specs.Names.{is_column}
use Rattle.psl_rules.specs.Stored.{stored_field}
use Rattle.psl_relations.proofs.stored.stored_columns.Given as goal

abbrev pub invariant-loop-entry : goal.invariant-loop-entry
invariant-loop-entry l =
    let columns : List Entry → List Name = λ entries. map stored_field (filter (is_column l.types) (filter_map field_of entries)) in
    l.names.items ++ columns (drop l.entry-index l.entry-items) ≡ columns l.entry-items
