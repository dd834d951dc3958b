use Rattle.std.proofs.Common.{◌≤◌, length}
use Rattle.qe_overlay.specs.Held.{held_in}
use Rattle.qe_overlay.proofs.Undoing.{GoingBack}
use Rattle.qe_overlay.proofs.overlay.Overlay.back.Given as goal

abbrev pub invariant-changes : goal.invariant-changes
invariant-changes l = GoingBack (held_in l.initial.self) (held_in l.self) × (l.to.0 ≤ length (held_in l.self).past)

abbrev pub decreases-changes : goal.decreases-changes
decreases-changes l = length (held_in l.self).past
