use Rattle.std.proofs.Common.{◌≡◌, List, ℕ, drop}
use Rattle.std.specs.List.{filter_map}
use Rattle.psl_text.specs.declared.tree.Entry.{Entry}
use Rattle.psl_rules.specs.Parts.{first, earlier, failing, block_attribute_of}
use Rattle.psl_rules.specs.Attributes.{is_over_columns, attribute_place}
use Rattle.psl_fields.proofs.standing.wrong_on_entries.Given as goal

abbrev pub invariant-loop-entry : goal.invariant-loop-entry
invariant-loop-entry l =
    let places : List Entry → List ℕ = λ entries. failing (is_over_columns l.columns.0 l.columns.1) attribute_place (filter_map block_attribute_of entries) in
    earlier l.found (first (places (drop l.entry-index l.entry-items))) ≡ first (places l.entry-items)
