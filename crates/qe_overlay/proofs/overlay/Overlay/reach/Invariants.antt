use Rattle.std.proofs.Common.{◌≡◌, ◌-◌, ◌+◌, length}
use Rattle.qe_overlay.specs.Held.{layers_in}
use Rattle.qe_overlay.proofs.overlay.Overlay.reach.Given as goal

abbrev pub invariant-layers : goal.invariant-layers
invariant-layers l = (layers_in l.self-inside.layers.items ≡ layers_in l.fn.self.layers) × (l.self-inside.log.items ≡ l.fn.self.log)

abbrev pub decreases-layers : goal.decreases-layers
decreases-layers l = l.table.0 + 1 - length l.self-inside.layers.items
