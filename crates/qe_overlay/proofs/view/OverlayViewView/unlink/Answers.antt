use Rattle.qe_view.specs.After.{after}
use Rattle.qe_view.specs.declared.changes.Change.TheVariants as change
use Rattle.qe_overlay.specs.Held.{held_in}
use Rattle.qe_overlay.proofs.Views.{made, unlink_changes}
use Rattle.qe_overlay.proofs.view.OverlayViewView.unlink.Goals as goal

pub returns-clause-changes : goal.returns-clause-changes
returns-clause-changes g c =
    made c.args.self.now.schema (g.C.Connector.seen c.args.self.now.below) (after c.args.self.now.schema (change.Unlink c.args.table c.args.a.now c.args.b.now)) (held_in c.args.self.now.overlay) (held_in c.remove.new.self)
    (unlink_changes c.args.self.now.schema (g.C.Connector.seen c.args.self.now.below) (held_in c.args.self.now.overlay) (held_in c.remove.new.self) c.requires.stands c.args.table c.args.a.now c.args.b.now c.in_ok-pair.pair c.in_ok-pair.ensures c.in_ok-remove.ensures.ok c.requires.right c.requires.fits)

pub returns-clause-stands : goal.returns-clause-stands
returns-clause-stands g c = (unlink_changes c.args.self.now.schema (g.C.Connector.seen c.args.self.now.below) (held_in c.args.self.now.overlay) (held_in c.remove.new.self) c.requires.stands c.args.table c.args.a.now c.args.b.now c.in_ok-pair.pair c.in_ok-pair.ensures c.in_ok-remove.ensures.ok c.requires.right c.requires.fits).1
