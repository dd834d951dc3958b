use Rattle.std.proofs.Common.{rules, ◌∙◌, sym, ap, length, subst, ◌<◌}
use Rattle.std.proofs.lemmas.Int.{to_z-of_z}
use mir.Syntax.{w64}
use mir.Val.{SFits}
use Rattle.qe_overlay.specs.Held.{KeptLayers, held_in, with_raised}
use Rattle.qe_overlay.proofs.Undoing.{raised_held}
use Rattle.qe_overlay.proofs.overlay.Overlay.raise.Goals as goal

pub returns-clause-ok : goal.returns-clause-ok
returns-clause-ok c =
    raised_held c.args.self.now c.self.inside.layers.items c.self.inside.log.items c.reserve.new.self.items c.push_reserved.new.self.items c.args.table c.args.last c.raise-before.result c.index_mut-layer.result.now c.raise-before.new.self
    (ap held_in c.self.view_is ∙ c.reach.ensures.held)
    (subst (λ (kept : KeptLayers). c.args.table.0 < length kept.layers) (sym c.self.view_is) c.in_ok-reach.ensures.reached)
    c.index_mut-layer.ensures.value c.raise-before.ensures.before
    (c.raise-before.ensures.raised ∙ ap (λ last. with_raised last c.index_mut-layer.result.now) (to_z-of_z w64 c.args.last (let fits : SFits w64 c.args.last = search rules in fits)))
    c.in_ok-reserve.ensures.items c.push_reserved.ensures.items
