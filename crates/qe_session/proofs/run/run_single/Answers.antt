use Rattle.std.proofs.Common.{sym, subst}
use Rattle.qe_base.specs.declared.event.What.TheVariants as what
use Rattle.qe_overlay.specs.Held.{held_in}
use Rattle.qe_session.specs.Performing.{Runs}
use Rattle.qe_session.specs.Standing.{seen_in}
use Rattle.qe_session.specs.declared.run.Ran.{Ran}
use Rattle.qe_session.proofs.Running.{single_runs}
use Rattle.qe_session.proofs.run.run_single.Goals as goal

pub returns-clause-runs : goal.returns-clause-runs
returns-clause-runs g c =
    let view = c.args.view.now in
    let done = c.run_op-done.ensures in
    subst (λ (ran : Ran). Runs c.args.schema.now (what.Single c.args.op.now) (seen_in g.C.Connector.seen view) (seen_in g.C.Connector.seen c.run_op-done.new.view) ran) (sym c.ran_of.ensures)
    (single_runs c.args.schema.now view.schema c.args.op.now (held_in view.overlay) (g.C.Connector.seen view.below) (seen_in g.C.Connector.seen c.run_op-done.new.view) c.run_op-done.result done.performs done.leaves done.counts done.reads)
