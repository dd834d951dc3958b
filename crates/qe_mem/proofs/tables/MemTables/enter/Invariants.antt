use Rattle.std.proofs.Common.{◌≡◌, ◌≤◌, ◌-◌, length, take}
use Rattle.qe_mem.specs.Plans.{entered_table}
use Rattle.qe_mem.specs.Each.{each}
use Rattle.qe_mem.proofs.tables.MemTables.enter.Given as goal

abbrev pub invariant-tables : goal.invariant-tables
invariant-tables l = (l.done ≤ length l.plans) × (l.self ≡ each entered_table (take l.done l.plans) l.initial.self)

abbrev pub decreases-tables : goal.decreases-tables
decreases-tables l = length l.plans - l.done
