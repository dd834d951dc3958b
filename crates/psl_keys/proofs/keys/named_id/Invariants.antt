use Rattle.std.proofs.Common.{◌≡◌, ◌++◌, List, ℕ, Bool, true, map, drop, filter}
use Rattle.std.specs.Prelude.{codes}
use Rattle.std.specs.List.{flat_map, filter_map}
use Rattle.psl_text.specs.declared.tree.Entry.{Entry}
use Rattle.psl_rules.specs.Parts.{block_attribute_of, given_names, is_called}
use Rattle.psl_keys.proofs.keys.named_id.Given as goal

abbrev pub invariant-loop-entry : goal.invariant-loop-entry
invariant-loop-entry l =
    let named : List Entry → List (List ℕ) = λ entries. flat_map (given_names (codes "fields") true) (filter (is_called (codes "id")) (filter_map block_attribute_of entries)) in
    map (λ name. name.now) l.names.items ++ named (drop l.entry-index l.entry-items) ≡ named l.entry-items
