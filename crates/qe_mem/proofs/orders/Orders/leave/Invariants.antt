use Rattle.std.proofs.Common.{◌≡◌, ◌≤◌, length, take}
use Rattle.qe_mem.specs.Turns.{left_all}
use Rattle.qe_mem.specs.Each.{each}
use Rattle.qe_mem.proofs.orders.Orders.leave.Given as goal

abbrev pub invariant-orders : goal.invariant-orders
invariant-orders l = (l.left ≤ length l.plan) × (each left_all (take l.left l.plan) l.self-inside.listings.items ≡ each left_all l.plan l.fn.self)

abbrev pub decreases-orders : goal.decreases-orders
decreases-orders l = l.left
