use Rattle.std.proofs.Common.{◌∙◌, sym, ap, List, ◌∷◌, ◌++◌, []}
use Rattle.qe_overlay.specs.Held.{layers_in, past_of, KeptLayers}
use Rattle.qe_overlay.specs.declared.overlay.Undo.{Undo}
use Rattle.qe_overlay.proofs.Undoing.{popped}
use Rattle.qe_overlay.proofs.overlay.Overlay.undo_last.Goals as goal

pub returns-in-Some-clause-past : goal.returns-in-Some-clause-past
returns-in-Some-clause-past c some =
    let viewed = λ (kept : KeptLayers). past_of kept.log (layers_in kept.layers) in
    ap viewed (sym c.self.view_is)
    ∙ popped c.self.inside.layers.items c.self.inside.log.items c.pop.new.self.items c.in-Some.undo c.undo.new.self.layers c.in-Some.ensures.items c.undo.ensures.layers
    ∙ ap (λ (log : List Undo). past_of log (layers_in c.undo.new.self.layers) ++ layers_in c.undo.new.self.layers ∷ []) (sym c.undo.ensures.log)
