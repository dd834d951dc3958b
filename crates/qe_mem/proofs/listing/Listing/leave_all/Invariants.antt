use Rattle.std.proofs.Common.{◌≡◌, ◌≤◌, length, take}
use Rattle.qe_mem.specs.Turns.{left_all}
use Rattle.qe_mem.proofs.listing.Listing.leave_all.Given as goal

abbrev pub invariant-turns : goal.invariant-turns
invariant-turns l = (l.left ≤ length l.turns) × (left_all (take l.left l.turns) l.self ≡ left_all l.turns l.initial.self)

abbrev pub decreases-turns : goal.decreases-turns
decreases-turns l = l.left
