use Rattle.std.proofs.Common.{◌≡◌, ℕ, List, drop, Bor}
use Rattle.std.specs.List.{flat_map}
use Rattle.psl_text.specs.declared.tree.Block.{Block}
use Rattle.psl_rules.specs.Parts.{first, earlier}
use Rattle.psl_rules.specs.Defaults.{counters_of}
use Rattle.psl_keys.proofs.counters.counters_are_ids.Given as goal

abbrev pub invariant-loop-model : goal.invariant-loop-model
invariant-loop-model l =
    let places : List (Bor Block) → List ℕ = flat_map (λ block. counters_of block.now) in
    earlier l.found (first (places (drop l.model-index l.model-items))) ≡ first (places l.model-items)
