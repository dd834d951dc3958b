use Rattle.std.proofs.Common.{ap}
use Rattle.qe_session.proofs.Resting.{forgotten}
use Rattle.qe_session.proofs.run.forget.Goals as goal

pub returns-clause-order : goal.returns-clause-order
returns-clause-order g c =
    forgotten c.args.view.now.schema _ _ (g.C.Connector.seen c.args.view.now.below) _ _ c.requires.order c.forget.ensures.schema c.forget.ensures.overlay (ap g.C.Connector.seen c.forget.ensures.below)
