use Rattle.std.proofs.Common.{◌≡◌, ◌≤◌, ◌-◌, length, take}
use Rattle.qe_mem.specs.Turns.{entered_all}
use Rattle.qe_mem.specs.Each.{each}
use Rattle.qe_mem.proofs.orders.Orders.enter.Given as goal

abbrev pub invariant-orders : goal.invariant-orders
invariant-orders l = (l.done ≤ length l.plan) × (l.self ≡ each entered_all (take l.done l.plan) l.initial.self)

abbrev pub decreases-orders : goal.decreases-orders
decreases-orders l = length l.plan - l.done
