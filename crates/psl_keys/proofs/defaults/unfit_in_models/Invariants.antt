use Rattle.std.proofs.Common.{◌≡◌, ℕ, List, drop, Bor}
use Rattle.std.specs.List.{flat_map}
use Rattle.psl_text.specs.declared.tree.Block.{Block}
use Rattle.psl_rules.specs.Parts.{first, earlier, fields}
use Rattle.psl_keys.specs.Unfit.{unfit}
use Rattle.psl_keys.proofs.defaults.unfit_in_models.Given as goal

abbrev pub invariant-loop-model : goal.invariant-loop-model
invariant-loop-model l =
    let places : List (Bor Block) → List ℕ = flat_map (λ block. unfit l.members (fields block.now)) in
    earlier l.found (first (places (drop l.model-index l.models))) ≡ first (places l.models)
