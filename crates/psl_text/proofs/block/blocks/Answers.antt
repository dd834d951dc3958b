use Rattle.std.proofs.Common.{rules, arith}
use Rattle.std.proofs.lemmas.Grind.{common_steps}
use Rattle.psl_text.specs.Grammar.{blocks, blocks_from}
use Rattle.psl_text.proofs.Turns.{blocks_more}
use Rattle.psl_text.proofs.block.blocks.Goals as goal

pub loop-turn-preserved : goal.loop-turn-preserved
unfolding blocks_from
loop-turn-preserved c =
    let e = blocks_more (blocks c.args.parser.now) c.left-turn-end.result c.loop-turn._turn c.loop-turn.found c.loop-turn.parser c.loop-turn-test.true c.loop-turn.invariant in
    first_of (search rules, grind (arith, common_steps))

pub loop-turn-preserved-then-eat : goal.loop-turn-preserved-then-eat
unfolding blocks_from
loop-turn-preserved-then-eat c =
    let e = blocks_more (blocks c.args.parser.now) c.left-turn-end.result c.loop-turn._turn c.loop-turn.found c.loop-turn.parser c.loop-turn-test.true c.loop-turn.invariant in
    first_of (search rules, grind (arith, common_steps))
