use Rattle.std.proofs.Common.{◌≡◌, ◌++◌, filter}
use Rattle.qe_view.specs.After.{is_wanted}
use Rattle.qe_mem.specs.Listings.{rows_in}
use Rattle.qe_mem.proofs.listing.Listing.wanted.Given as goal

abbrev pub invariant-loop-keyed : goal.invariant-loop-keyed
invariant-loop-keyed l = l.rows ++ filter (is_wanted l.columns l.keys) (rows_in l.keyed-iterator) ≡ filter (is_wanted l.columns l.keys) l.self.rows
