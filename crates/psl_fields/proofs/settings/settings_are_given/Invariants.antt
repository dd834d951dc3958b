use Rattle.std.proofs.Common.{◌≡◌, ℕ, List, drop, Bor}
use Rattle.std.specs.List.{flat_map}
use Rattle.psl_text.specs.declared.tree.Block.{Block}
use Rattle.psl_rules.specs.Parts.{first, earlier}
use Rattle.psl_rules.specs.Settings.{broken_settings}
use Rattle.psl_fields.proofs.settings.settings_are_given.Given as goal

abbrev pub invariant-loop-block : goal.invariant-loop-block
invariant-loop-block l =
    let places : List (Bor Block) → List ℕ = flat_map (λ block. broken_settings block.now) in
    earlier l.found (first (places (drop l.block-index l.block-items))) ≡ first (places l.block-items)
