use Rattle.std.proofs.Common.{rules, arith}
use Rattle.std.proofs.lemmas.Grind.{common_steps}
use Rattle.psl_text.specs.Grammar.{entries, entries_from}
use Rattle.psl_text.proofs.Turns.{entries_more}
use Rattle.psl_text.proofs.block.entries.Goals as goal

pub loop-turn-preserved : goal.loop-turn-preserved
unfolding entries_from
loop-turn-preserved c =
    let e = entries_more c.args.word (entries c.args.word c.args.parser.now) c.left-turn-end.result c.loop-turn._turn c.loop-turn.found c.loop-turn.parser c.loop-turn-test.true c.loop-turn.invariant in
    first_of (search rules, grind (arith, common_steps))

pub loop-turn-preserved-then-eat-2 : goal.loop-turn-preserved-then-eat-2
unfolding entries_from
loop-turn-preserved-then-eat-2 c =
    let e = entries_more c.args.word (entries c.args.word c.args.parser.now) c.left-turn-end.result c.loop-turn._turn c.loop-turn.found c.loop-turn.parser c.loop-turn-test.true c.loop-turn.invariant in
    first_of (search rules, grind (arith, common_steps))

pub returns-in_err-entry : goal.returns-in_err-entry
unfolding entries_from
returns-in_err-entry c =
    let e = entries_more c.args.word (entries c.args.word c.args.parser.now) c.left-turn-end.result c.loop-turn._turn c.loop-turn.found c.loop-turn.parser c.loop-turn-test.true c.loop-turn.invariant in
    first_of (search rules, grind (arith, common_steps))
