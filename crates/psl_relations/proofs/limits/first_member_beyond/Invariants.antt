use Rattle.std.proofs.Common.{◌≡◌, ℕ, List, drop, Bor}
use Rattle.std.specs.List.{flat_map}
use Rattle.psl_text.specs.declared.tree.Block.{Block}
use Rattle.psl_rules.specs.Parts.{first, earlier}
use Rattle.psl_rules.specs.Names.{member_names}
use Rattle.psl_rules.specs.Stored.{beyond}
use Rattle.psl_relations.proofs.limits.first_member_beyond.Given as goal

abbrev pub invariant-loop-enumeration : goal.invariant-loop-enumeration
invariant-loop-enumeration l =
    let places : List (Bor Block) → List ℕ = flat_map (λ block. beyond 1000 (member_names block.now)) in
    earlier l.found (first (places (drop l.enumeration-index l.enumeration-items))) ≡ first (places l.enumeration-items)
