use Rattle.std.proofs.Common.{◌≡◌, map, take}
use Rattle.qe_mem.specs.Plans.{turns_in}
use Rattle.qe_mem.proofs.orders.Orders.turns.Given as goal

abbrev pub invariant-loop-listing : goal.invariant-loop-listing
invariant-loop-listing l = l.plan ≡ map (turns_in l.swaps) (take l.listing-index l.self)
