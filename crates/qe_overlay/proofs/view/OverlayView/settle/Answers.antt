use Rattle.std.proofs.Common.{sym, subst}
use Rattle.std.specs.Prelude.{Ok}
use Rattle.qe_base.specs.Schemas.{Schema}
use Rattle.qe_overlay.specs.Fits.{Stands, viewed_by}
use Rattle.qe_overlay.specs.Held.{KeptLayers, held_in}
use Rattle.qe_overlay.specs.Settled.{Settles, SettlesBelow}
use Rattle.qe_overlay.proofs.Shapes.{can_apply, settled, settled_stands}
use Rattle.qe_overlay.proofs.view.OverlayView.settle.Goals as goal

pub apply_any-requires-clause-can : goal.apply_any-requires-clause-can
apply_any-requires-clause-can g c =
    can_apply c.args.self.now.schema (held_in c.args.self.now.overlay) c.in_ok-changes.changes (subst (λ (s : Schema). SettlesBelow s (held_in c.args.self.now.overlay).layers c.in_ok-changes.changes) c.get.ensures c.in_ok-changes.ensures.settles) (g.C.Connector.seen c.args.self.now.below) c.requires

pub returns-clause-settles : goal.returns-clause-settles
returns-clause-settles g c =
    let schema = c.args.self.now.schema in
    let held = held_in c.args.self.now.overlay in
    let before = g.C.Connector.seen c.args.self.now.below in
    let now = g.C.Connector.seen c.apply_any.new.below in
    subst (λ (kept : KeptLayers). Settles (viewed_by schema c.args.self.now.overlay before) (viewed_by schema kept now) (Ok tt)) (sym c.clear.ensures)
    (settled schema held c.in_ok-changes.changes (subst (λ (s : Schema). SettlesBelow s (held_in c.args.self.now.overlay).layers c.in_ok-changes.changes) c.get.ensures c.in_ok-changes.ensures.settles) before now c.in_ok-apply_any.field-0 c.requires c.in_ok-apply_any.ensures.applies)

pub returns-clause-stands : goal.returns-clause-stands
returns-clause-stands g c =
    let schema = c.args.self.now.schema in
    let held = held_in c.args.self.now.overlay in
    let before = g.C.Connector.seen c.args.self.now.below in
    let now = g.C.Connector.seen c.apply_any.new.below in
    subst (λ (kept : KeptLayers). Stands schema (held_in kept) now) (sym c.clear.ensures)
    (settled_stands schema held c.in_ok-changes.changes (subst (λ (s : Schema). SettlesBelow s (held_in c.args.self.now.overlay).layers c.in_ok-changes.changes) c.get.ensures c.in_ok-changes.ensures.settles) before now c.in_ok-apply_any.field-0 c.requires c.in_ok-apply_any.ensures.applies)
