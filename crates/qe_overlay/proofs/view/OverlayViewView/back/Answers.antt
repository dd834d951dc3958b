use Rattle.qe_overlay.specs.Held.{held_in}
use Rattle.qe_overlay.proofs.Views.{viewed_back, back_stands}
use Rattle.qe_overlay.proofs.view.OverlayViewView.back.Goals as goal

pub returns-clause-back : goal.returns-clause-back
returns-clause-back g c = viewed_back c.args.self.now.schema (g.C.Connector.seen c.args.self.now.below) c.args.to.0 (held_in c.args.self.now.overlay) (held_in c.back.new.self) c.back.ensures

pub returns-clause-stands : goal.returns-clause-stands
returns-clause-stands g c = back_stands c.args.self.now.schema (g.C.Connector.seen c.args.self.now.below) c.args.to.0 (held_in c.args.self.now.overlay) (held_in c.back.new.self) c.back.ensures c.requires.stands
