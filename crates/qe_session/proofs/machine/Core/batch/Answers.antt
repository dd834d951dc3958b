use Rattle.std.proofs.Common.{refl, subst}
use Rattle.qe_base.specs.Schemas.{Schema}
use Rattle.qe_base.specs.declared.event.What.TheVariants as what
use Rattle.qe_session.specs.Performing.{Runs}
use Rattle.qe_session.specs.Standing.{seen_in}
use Rattle.qe_session.proofs.Joining.{joined, nothing, tellable}
use Rattle.qe_session.proofs.Resting.{at_rest}
use Rattle.qe_session.proofs.machine.Core.batch.Goals as goal

pub returns-in_default-clause-does : goal.returns-in_default-clause-does
returns-in_default-clause-does g c = nothing c.args.self.now.schema (what.Batch c.args.ops.now) _ (g.C.Connector.seen c.args.self.now.view.below) _ (λ h. h) c.memory.ensures.reply refl

pub tell-requires-clause-tellable : goal.tell-requires-clause-tellable
tell-requires-clause-tellable g c =
    let view = c.args.self.now.view in
    tellable _ (what.Batch c.args.ops.now) (seen_in g.C.Connector.seen view) (seen_in g.C.Connector.seen c.run_batch-ran.new.view) c.run_batch-ran.result (at_rest view.schema view.overlay (g.C.Connector.seen view.below) c.requires.ready.rest)
    c.run_batch-ran.ensures.runs

pub returns-clause-does : goal.returns-clause-does
returns-clause-does g c =
    let view = c.args.self.now.view in
    let before = seen_in g.C.Connector.seen view in
    let mid = seen_in g.C.Connector.seen c.run_batch-ran.new.view in
    joined c.args.self.now.schema (what.Batch c.args.ops.now) before mid (g.C.Connector.seen c.tell.new.view.below) c.run_batch-ran.result c.tell.result.reply (λ h. h)
    (at_rest view.schema view.overlay (g.C.Connector.seen view.below) c.requires.ready.rest)
    (subst (λ (schema : Schema). Runs schema (what.Batch c.args.ops.now) before mid c.run_batch-ran.result) c.get.ensures c.run_batch-ran.ensures.runs) c.tell.ensures.tells c.tell.ensures.calls
