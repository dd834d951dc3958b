use Rattle.std.proofs.Common.{◌≡◌, [], map, take, drop}
use Rattle.qe_mem.specs.Plans.{noted_all}
use Rattle.qe_mem.proofs.tables.MemTables.pendings.Given as goal

abbrev pub invariant-loop-table : goal.invariant-loop-table
invariant-loop-table l = l.pendings.items ≡ map (λ table. []) (take l._table-index l.self)

abbrev pub invariant-loop-change : goal.invariant-loop-change
invariant-loop-change l = noted_all l.self (drop l.change-index l.changes) l.pendings.items ≡ noted_all l.self l.changes (map (λ table. []) l.self)
