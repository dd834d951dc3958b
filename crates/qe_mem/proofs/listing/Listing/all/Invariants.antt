use Rattle.std.proofs.Common.{◌≡◌, ◌++◌}
use Rattle.qe_mem.specs.Listings.{rows_in}
use Rattle.qe_mem.proofs.listing.Listing.all.Given as goal

abbrev pub invariant-loop-keyed : goal.invariant-loop-keyed
invariant-loop-keyed l = l.rows ++ rows_in l.keyed-iterator ≡ l.self.rows
