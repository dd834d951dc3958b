use Rattle.std.proofs.Common.{◌≡◌, ◌++◌, ◌-◌, ◌≤◌, length, take, reverse}
use Rattle.qe_mem.specs.Listings.{rows_in}
use Rattle.qe_mem.proofs.listing.last_rows.Given as goal

abbrev pub invariant-rows : goal.invariant-rows
invariant-rows l = (length l.rows ≤ l.count) × (l.rows ++ take (l.count - length l.rows) (reverse (rows_in l.range)) ≡ take l.count (reverse (rows_in l.fn.range)))

abbrev pub decreases-rows : goal.decreases-rows
decreases-rows l = l.count - length l.rows
