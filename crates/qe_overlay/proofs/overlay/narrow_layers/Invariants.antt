use Rattle.qe_overlay.specs.Held.{layers_in}
use Rattle.qe_overlay.proofs.Narrowing.{NarrowedFirst}
use Rattle.qe_overlay.proofs.overlay.narrow_layers.Given as goal

-- the layers so far are narrowed
abbrev pub invariant-loop-number : goal.invariant-loop-number
invariant-loop-number l = NarrowedFirst l.tables l.number (layers_in l.initial.layers) (layers_in l.layers)
