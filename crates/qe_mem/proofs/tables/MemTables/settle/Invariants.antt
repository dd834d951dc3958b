use Rattle.std.proofs.Common.{◌≡◌, length}
use Rattle.qe_mem.specs.Plans.{settled_table, CanSettleTable}
use Rattle.qe_mem.specs.Each.{each, AllOfBoth}
use Rattle.qe_mem.proofs.tables.MemTables.settle.Given as goal

abbrev pub invariant-tables : goal.invariant-tables
invariant-tables l = AllOfBoth CanSettleTable l.plans l.self-inside.tables.items × (each settled_table l.plans l.self-inside.tables.items ≡ each settled_table l.fn.plans l.fn.self)

abbrev pub decreases-tables : goal.decreases-tables
decreases-tables l = length l.plans
