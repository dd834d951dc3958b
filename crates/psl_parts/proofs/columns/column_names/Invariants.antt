use Rattle.std.proofs.Common.{◌≡◌, ◌++◌, List, ℕ, map, filter, drop}
use Rattle.std.specs.List.{filter_map}
use Rattle.psl_text.specs.declared.tree.Entry.{Entry}
use Rattle.psl_rules.specs.Parts.{field_of}
use Rattle.psl_rules.specs.Names.{is_column}
use Rattle.psl_parts.proofs.columns.column_names.Given as goal

abbrev pub invariant-loop-entry : goal.invariant-loop-entry
invariant-loop-entry l =
    let names : List Entry → List (List ℕ) = λ entries. map (λ field. field.name.text) (filter (is_column l.types) (filter_map field_of entries)) in
    map (λ name. name.now) l.found.items ++ names (drop l.entry-index l.entry-items) ≡ names l.entry-items
