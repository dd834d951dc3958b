use Rattle.std.proofs.Common.{◌∙◌, sym, ap, length, subst, ◌<◌}
use Rattle.qe_overlay.specs.Held.{KeptLayers, held_in}
use Rattle.qe_overlay.proofs.Undoing.{entered_held}
use Rattle.qe_overlay.proofs.overlay.Overlay.enter.Goals as goal

pub returns-clause-ok : goal.returns-clause-ok
returns-clause-ok c =
    entered_held c.args.self.now c.self.inside.layers.items c.self.inside.log.items c.reserve.new.self.items c.push_reserved.new.self.items c.args.table c.args.id c.in_ok-under.under c.args.now c.in_ok-before.before c.index_mut-layer.result.now c.enter.new.self
    (ap held_in c.self.view_is ∙ c.reach.ensures.held)
    (subst (λ (kept : KeptLayers). c.args.table.0 < length kept.layers) (sym c.self.view_is) c.in_ok-reach.ensures.reached)
    c.index_mut-layer.ensures.value c.in_ok-before.ensures.ordered c.in_ok-under.ensures c.in_ok-before.ensures.before c.in_ok-before.ensures.ok
    c.in_ok-reserve.ensures.items c.push_reserved.ensures.items
