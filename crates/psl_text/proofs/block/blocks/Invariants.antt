use Rattle.std.proofs.Common.{◌≡◌, ◌-◌}
use Rattle.psl_text.specs.Grammar.{blocks, blocks_from}
use Rattle.psl_text.proofs.block.blocks.Given as goal

abbrev pub invariant-loop-turn : goal.invariant-loop-turn
invariant-loop-turn l = blocks l.fn.parser ≡ blocks_from (l._turn-end - l._turn) l.found l.parser
