use Rattle.psl_relations.proofs.Stepped.{turn}
use Rattle.psl_relations.proofs.Walked.{begins_more}
use Rattle.psl_relations.proofs.walks.follow.Goals as goal

pub loop-step-preserved : goal.loop-step-preserved
loop-step-preserved c = (
  λ name.
      turn c.args.steps.now c.loop-step.step-index c.step-item.result c.loop-step.reached.keys c.insert.new.self.keys c.to.result name _
      c.loop-step-test.true c.step-item.is c.to.ensures c.in_ok-insert.ensures.keys (c.loop-step.invariant.0 name),
  begins_more c.args.reached.now.keys c.loop-step.reached.keys c.insert.new.self.keys c.to.result c.loop-step.invariant.1 c.in_ok-insert.ensures.keys,
)
