use Rattle.std.proofs.Common.{refl}
use Rattle.psl_rules.specs.Updates.{is_on_cycle}
use Rattle.psl_relations.proofs.Walked.{turn_arrow}
use Rattle.psl_relations.proofs.updates.first_on_cycle.Goals as goal

pub loop-arrow-preserved : goal.loop-arrow-preserved
loop-arrow-preserved c =
    turn_arrow c.args.ranked.now c.args.arrows.now c.loop-arrow.arrow-index c.arrow-item.result c.loop-arrow.found c.in_ok-found.found _ (is_on_cycle c.args.ranked.now c.arrow-item.result.now) c.loop-arrow-test.true c.arrow-item.is c.in_ok-found.ensures
    refl c.loop-arrow.invariant
