use Rattle.std.proofs.Common.{◌≡◌, length}
use Rattle.qe_mem.specs.Turns.{settled_all, CanSettle}
use Rattle.qe_mem.proofs.listing.Listing.settle_all.Given as goal

abbrev pub invariant-turns : goal.invariant-turns
invariant-turns l = CanSettle l.turns l.self × (settled_all l.turns l.self ≡ settled_all l.fn.turns l.initial.self)

abbrev pub decreases-turns : goal.decreases-turns
decreases-turns l = length l.turns
