use Rattle.std.proofs.Common.{ap, subst, ◌∙◌}
use Rattle.qe_schema.specs.Sound.{IsSound}
use Rattle.qe_session.proofs.Resting.{begun, first}
use Rattle.qe_session.proofs.machine.Core.new.Goals as goal

pub returns-in-Ok-clause-ready : goal.returns-in-Ok-clause-ready
returns-in-Ok-clause-ready g c =
    let view = c.over-view.ensures in
    begun c.args.schema _ _ (g.C.Connector.seen c.args.connector) _ (subst IsSound c.get.ensures c.is_sound.ensures) c.requires.attached c.requires.fits (view.schema ∙ c.in-Ok.ensures) (view.overlay ∙ c.new.ensures) (ap g.C.Connector.seen view.below)

pub returns-in-Ok-clause-history : goal.returns-in-Ok-clause-history
returns-in-Ok-clause-history g c = first c.args.schema (g.C.Connector.seen c.args.connector) _ (ap g.C.Connector.seen c.over-view.ensures.below)
