use Rattle.std.proofs.Common.{◌≡◌, ◌++◌, map, filter, drop}
use Rattle.psl_rules.specs.Parts.{same_word}
use Rattle.psl_parts.proofs.parts.blocks_of.Given as goal

abbrev pub invariant-loop-block : goal.invariant-loop-block
invariant-loop-block l =
    map (λ block. block.now) l.blocks.items ++ filter (λ block. same_word block.word l.word) (drop l.block-index l.block-items) ≡ filter (λ block. same_word block.word l.word) l.block-items
