use Rattle.std.proofs.Common.{◌≡◌, drop}
use Rattle.qe_mem.specs.Listings.{no_listing}
use Rattle.qe_mem.specs.Gathered.{gathered}
use Rattle.qe_mem.proofs.listing.Listing.gather.Given as goal

abbrev pub invariant-loop-key : goal.invariant-loop-key
invariant-loop-key l = gathered l.self (drop l.key-index l.keys) l.found ≡ gathered l.self l.keys (no_listing l.fn.table.columns)
