use Rattle.std.proofs.Common.{rules, arith}
use Rattle.std.proofs.lemmas.Grind.{common_steps}
use Rattle.psl_text.specs.Grammar.{attributes, attributes_from}
use Rattle.psl_text.proofs.Turns.{attributes_more}
use Rattle.psl_text.proofs.attribute.attributes.Goals as goal

pub loop-turn-preserved : goal.loop-turn-preserved
unfolding attributes_from
loop-turn-preserved c =
    let e = attributes_more (attributes c.args.parser.now) c.left-turn-end.result c.loop-turn._turn c.loop-turn.found c.loop-turn.parser c.loop-turn-test.true c.loop-turn.invariant in
    first_of (search rules, grind (arith, common_steps))

pub returns-in_err-attribute : goal.returns-in_err-attribute
unfolding attributes_from
returns-in_err-attribute c =
    let e = attributes_more (attributes c.args.parser.now) c.left-turn-end.result c.loop-turn._turn c.loop-turn.found c.loop-turn.parser c.loop-turn-test.true c.loop-turn.invariant in
    first_of (search rules, grind (arith, common_steps))
