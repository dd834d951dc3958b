use Rattle.psl_parts.proofs.Distinct.{turn, all_distinct}
use Rattle.psl_parts.proofs.repeats.stand_once.Goals as goal

pub loop-name-preserved : goal.loop-name-preserved
loop-name-preserved c =
    turn c.args.names.now c.loop-name.name-index _ c.loop-name.seen.keys c.insert.new.self.keys c.in_ok-is_new.is_new
    c.loop-name-test.true c.in_ok-is_new.ensures.added c.in_ok-is_new.ensures.keys c.if-not-is_new.false c.loop-name.invariant

pub returns : goal.returns
returns c = all_distinct c.args.names.now c.loop-name.name-index c.loop-name.seen.keys c.loop-name-test.false c.loop-name.invariant
