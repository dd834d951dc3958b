use Rattle.std.proofs.Common.{◌≡◌, drop}
use Rattle.qe_mem.specs.Gathered.{with_all}
use Rattle.qe_mem.proofs.listing.Listing.insert_all.Given as goal

abbrev pub invariant-loop-row : goal.invariant-loop-row
invariant-loop-row l = with_all (drop l.row-index l.rows) l.self ≡ with_all l.rows l.initial.self
