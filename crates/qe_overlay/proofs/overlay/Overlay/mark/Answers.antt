use Rattle.std.proofs.Common.{◌∙◌, sym, ap, length}
use Rattle.qe_overlay.specs.Held.{layers_in, KeptLayers}
use Rattle.qe_overlay.proofs.Undoing.{length-past_of}
use Rattle.qe_overlay.proofs.overlay.Overlay.mark.Goals as goal

pub returns : goal.returns
returns c = c.len.ensures ∙ c.self.inside.log.ok.0 ∙ ap (λ (kept : KeptLayers). length kept.log) c.self.view_is ∙ sym (length-past_of c.args.self.now.log (layers_in c.args.self.now.layers))
