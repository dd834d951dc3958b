use Rattle.std.proofs.Common.{◌≡◌, ℕ, List, drop, Bor}
use Rattle.std.specs.List.{flat_map}
use Rattle.psl_text.specs.declared.tree.Block.{Block}
use Rattle.psl_rules.specs.Parts.{first, earlier}
use Rattle.psl_rules.specs.Names.{repeated_fields, repeated_members}
use Rattle.psl_fields.proofs.names.field_names_are_distinct.Given as goal

abbrev pub invariant-loop-model : goal.invariant-loop-model
invariant-loop-model l =
    let places : List (Bor Block) → List ℕ = flat_map (λ block. repeated_fields block.now) in
    earlier l.found (first (places (drop l.model-index l.model-items))) ≡ first (places l.model-items)

abbrev pub invariant-loop-enumeration : goal.invariant-loop-enumeration
invariant-loop-enumeration l =
    let places : List (Bor Block) → List ℕ = flat_map (λ block. repeated_members block.now) in
    earlier l.found (first (places (drop l.enumeration-index l.enumeration-items))) ≡ earlier l.initial.found (first (places l.enumeration-items))
