use Rattle.std.proofs.Common.{◌≡◌, ◌++◌, filter}
use Rattle.qe_schema.specs.Tests.{passes}
use Rattle.qe_mem.specs.Listings.{rows_in}
use Rattle.qe_mem.proofs.listing.Listing.passing.Given as goal

abbrev pub invariant-loop-keyed : goal.invariant-loop-keyed
invariant-loop-keyed l = l.rows ++ filter (passes l.tests) (rows_in l.keyed-iterator) ≡ filter (passes l.tests) l.self.rows
