use Rattle.std.proofs.Common.{◌≡◌, drop}
use Rattle.qe_mem.specs.Plans.{raised_all}
use Rattle.qe_mem.proofs.tables.MemTables.apply.Given as goal

abbrev pub invariant-loop-change : goal.invariant-loop-change
invariant-loop-change l = raised_all (drop l.change-index l.changes) l.self ≡ raised_all l.changes l.initial.self
