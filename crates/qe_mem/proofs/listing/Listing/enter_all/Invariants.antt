use Rattle.std.proofs.Common.{◌≡◌, ◌≤◌, ◌-◌, length, take}
use Rattle.qe_mem.specs.Turns.{entered_all}
use Rattle.qe_mem.proofs.listing.Listing.enter_all.Given as goal

abbrev pub invariant-turns : goal.invariant-turns
invariant-turns l = (l.done ≤ length l.turns) × (l.self ≡ entered_all (take l.done l.turns) l.initial.self)

abbrev pub decreases-turns : goal.decreases-turns
decreases-turns l = length l.turns - l.done
