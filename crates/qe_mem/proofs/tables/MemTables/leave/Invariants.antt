use Rattle.std.proofs.Common.{◌≡◌, ◌≤◌, length, take}
use Rattle.qe_mem.specs.Plans.{left_table}
use Rattle.qe_mem.specs.Each.{each}
use Rattle.qe_mem.proofs.tables.MemTables.leave.Given as goal

abbrev pub invariant-tables : goal.invariant-tables
invariant-tables l = (l.left ≤ length l.plans) × (each left_table (take l.left l.plans) l.self-inside.tables.items ≡ each left_table l.plans l.fn.self)

abbrev pub decreases-tables : goal.decreases-tables
decreases-tables l = l.left
