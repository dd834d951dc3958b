use Rattle.std.proofs.Common.{◌∙◌}
use Rattle.qe_overlay.proofs.Undoing.{layers_in-more}
use Rattle.qe_overlay.proofs.overlay.Overlay.reach.Goals as goal

pub layers-preserved : goal.layers-preserved
layers-preserved c =
    (rw (c.in_ok-push.ensures.items, c.new.ensures) (layers_in-more c.layers.self-inside.layers.items ∙ c.layers.invariant.0), c.layers.invariant.1)
