use Rattle.std.proofs.Common.{◌≡◌, map, take}
use Rattle.qe_mem.specs.Turns.{turn_of}
use Rattle.qe_mem.proofs.listing.Listing.turns.Given as goal

abbrev pub invariant-loop-swap : goal.invariant-loop-swap
invariant-loop-swap l = l.turns ≡ map (turn_of l.self.columns) (take l.swap-index l.swaps)
