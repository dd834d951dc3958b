use Rattle.std.proofs.Common.{◌≡◌, ◌+◌, ◌∷◌, ◌++◌, [], List, take, ap, ◌∙◌, sym, subst, rules}
use Rattle.qe_base.specs.declared.answer.Answer.{Answer}
use Rattle.qe_overlay.specs.Held.{held_in}
use Rattle.qe_session.specs.Batches.{Accepts, refused_at}
use Rattle.qe_session.specs.Standing.{seen_in}
use Rattle.qe_session.proofs.Batches.{all_turned, turn_accepted, turn_refused, turn_short}
use Rattle.qe_session.proofs.run.run_batch.Goals as goal

pub returns-then-is_err-clause-runs : goal.returns-then-is_err-clause-runs
returns-then-is_err-clause-runs g c =
    let seen = seen_in g.C.Connector.seen in
    turn_short c.args.schema.now c.args.ops.now c.loop-op.op-index c.op-item.result c.loop-op.answers c.in-Ok.answer (seen c.args.view.now) (seen c.loop-op.view) (seen c.run_one.new.view) c.run_one.result c.loop-op-test.true c.op-item.is
    c.loop-op.invariant.0 c.run_one.ensures.ends c.in-Ok.is

pub returns-in-Err-clause-runs : goal.returns-in-Err-clause-runs
returns-in-Err-clause-runs g c =
    let view = c.args.view.now in
    turn_refused c.args.schema.now view.schema (held_in view.overlay) (g.C.Connector.seen view.below) c.args.ops.now c.loop-op.op-index c.op-item.result c.loop-op.answers (seen_in g.C.Connector.seen c.loop-op.view)
    (seen_in g.C.Connector.seen c.run_one.new.view) c.run_one.result c.in-Err.fault c.refused_at.result c.loop-op-test.true c.op-item.is c.loop-op.invariant.0 c.run_one.ensures.ends c.in-Err.is
    (c.refused_at.ensures ∙ ap (λ n. refused_at n c.in-Err.fault) c.len-index.ensures)

pub loop-op-preserved : goal.loop-op-preserved
loop-op-preserved g c =
    let pushed : c.push.new.self ≡ c.loop-op.answers ++ c.in-Ok.answer ∷ [] = search rules in (
      subst (λ (answers : List Answer). Accepts c.args.schema.now (take (c.loop-op.op-index + 1) c.args.ops.now) answers (seen_in g.C.Connector.seen c.args.view.now) (seen_in g.C.Connector.seen c.run_one.new.view)) (sym pushed)
          (turn_accepted c.args.schema.now c.args.ops.now c.loop-op.op-index c.op-item.result c.loop-op.answers c.in-Ok.answer (seen_in g.C.Connector.seen c.args.view.now) (seen_in g.C.Connector.seen c.loop-op.view)
          (seen_in g.C.Connector.seen c.run_one.new.view) c.run_one.result c.loop-op-test.true c.op-item.is c.loop-op.invariant.0 c.run_one.ensures.ends c.in-Ok.is),
      c.run_one.ensures.order,
      c.run_one.ensures.schema,
    )

pub returns-clause-runs : goal.returns-clause-runs
returns-clause-runs g c =
    all_turned c.args.schema.now c.args.ops.now c.loop-op.op-index c.loop-op.answers (seen_in g.C.Connector.seen c.args.view.now) (seen_in g.C.Connector.seen c.loop-op.view) c.loop-op-test.false c.loop-op.invariant.0
