use Rattle.std.proofs.Common.{◌≡◌, ◌++◌, [], map, drop, length}
use Rattle.qe_mem.specs.Plans.{noted_all, plans_for}
use Rattle.qe_mem.proofs.tables.MemTables.plans.Given as goal

abbrev pub invariant-loop-pending : goal.invariant-loop-pending
invariant-loop-pending l = l.plans ++ plans_for l.pending-iterator.rest.items (drop (length l.plans) l.self) ≡ plans_for (noted_all l.self l.fn.changes (map (λ table. []) l.self)) l.self
