use Rattle.std.proofs.Common.{◌≡◌, ◌++◌, ◌-◌, ◌≤◌, length, take}
use Rattle.qe_mem.specs.Listings.{rows_in}
use Rattle.qe_mem.proofs.listing.first_rows.Given as goal

abbrev pub invariant-loop-keyed : goal.invariant-loop-keyed
invariant-loop-keyed l = (length l.rows ≤ l.count) × (l.rows ++ take (l.count - length l.rows) (rows_in l.keyed-iterator) ≡ take l.count (rows_in l.fn.range))
