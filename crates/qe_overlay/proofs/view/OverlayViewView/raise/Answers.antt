use Rattle.std.proofs.Common.{rules, ◌∙◌, ap}
use Rattle.std.proofs.lemmas.Int.{to_z-of_z}
use mir.Syntax.{w64}
use mir.Val.{SFits}
use Rattle.qe_overlay.specs.Held.{held_in, raised}
use Rattle.qe_overlay.proofs.Views.{raise_changes}
use Rattle.qe_overlay.proofs.view.OverlayViewView.raise.Goals as goal

pub returns-clause-ok : goal.returns-clause-ok
returns-clause-ok g c = (raise_changes c.args.self.now.schema (g.C.Connector.seen c.args.self.now.below) (held_in c.args.self.now.overlay) (held_in c.raise.new.self) c.requires.stands c.args.table c.args.last
    (c.in_ok-raise.ensures.ok ∙ ap (λ last. raised c.args.table.0 last (held_in c.args.self.now.overlay)) (to_z-of_z w64 c.args.last (let fits : SFits w64 c.args.last = search rules in fits)))
    c.requires.right c.requires.fits).0

pub returns-clause-stands : goal.returns-clause-stands
returns-clause-stands g c = (raise_changes c.args.self.now.schema (g.C.Connector.seen c.args.self.now.below) (held_in c.args.self.now.overlay) (held_in c.raise.new.self) c.requires.stands c.args.table c.args.last
    (c.in_ok-raise.ensures.ok ∙ ap (λ last. raised c.args.table.0 last (held_in c.args.self.now.overlay)) (to_z-of_z w64 c.args.last (let fits : SFits w64 c.args.last = search rules in fits)))
    c.requires.right c.requires.fits).1
