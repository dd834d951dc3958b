use Rattle.std.proofs.Common.{◌≡◌, ◌++◌, List, ℕ, drop, map}
use Rattle.std.specs.List.{filter_map}
use Rattle.psl_text.specs.declared.tree.Entry.{Entry}
use Rattle.psl_rules.specs.Parts.{block_attribute_of}
use Rattle.psl_columns.specs.Numbered.{indexes_over}
use Rattle.psl_columns.proofs.key.indexes_over.Given as goal

abbrev pub invariant-loop-entry : goal.invariant-loop-entry
invariant-loop-entry l =
    let made : List Entry → List (List ℕ) = λ entries. indexes_over (map (λ name. name.now) l.columns) (filter_map block_attribute_of entries) in
    l.indexes ++ made (drop l.entry-index l.entry-items) ≡ made l.entry-items
