use Rattle.std.proofs.Common.{◌≡◌, length}
use Rattle.qe_mem.specs.Turns.{settled_all, CanSettle}
use Rattle.qe_mem.specs.Each.{each, AllOfBoth}
use Rattle.qe_mem.proofs.orders.Orders.settle.Given as goal

abbrev pub invariant-orders : goal.invariant-orders
invariant-orders l = AllOfBoth CanSettle l.plan l.self-inside.listings.items × (each settled_all l.plan l.self-inside.listings.items ≡ each settled_all l.fn.plan l.fn.self)

abbrev pub decreases-orders : goal.decreases-orders
decreases-orders l = length l.plan
