use Rattle.std.proofs.Common.{◌≡◌, ℕ, List, map, drop}
use Rattle.psl_rules.specs.Parts.{first, earlier}
use Rattle.psl_fields.proofs.settings.first_name.Given as goal

abbrev pub invariant-loop-block : goal.invariant-loop-block
invariant-loop-block l = earlier l.found (first (map (λ block. block.now.name.at) (drop l.block-index l.blocks))) ≡ first (map (λ block. block.now.name.at) l.blocks)
