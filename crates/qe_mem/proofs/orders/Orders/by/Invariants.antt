use Rattle.std.proofs.Common.{◌≡◌, drop, find}
use Rattle.qe_mem.specs.Listings.{goes_by}
use Rattle.qe_mem.proofs.orders.Orders.by.Given as goal

abbrev pub invariant-loop-listing : goal.invariant-loop-listing
invariant-loop-listing l = find (λ listing. goes_by l.columns listing.columns) (drop l.listing-index l.self) ≡ find (λ listing. goes_by l.columns listing.columns) l.self
