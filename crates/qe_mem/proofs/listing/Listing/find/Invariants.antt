use Rattle.std.proofs.Common.{◌≡◌, ◌++◌, filter}
use Rattle.qe_mem.specs.Listings.{rows_in, has_key}
use Rattle.qe_mem.proofs.Finding.{lead, under_key}
use Rattle.qe_mem.proofs.listing.Listing.find.Given as goal

abbrev pub invariant-loop-keyed : goal.invariant-loop-keyed
invariant-loop-keyed l = l.rows ++ rows_in (lead (under_key l.from) l.keyed-iterator) ≡ filter (has_key l.self.columns l.key.values) l.self.rows
