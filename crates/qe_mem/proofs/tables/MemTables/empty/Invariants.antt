use Rattle.std.proofs.Common.{◌≡◌, ◌++◌, map, drop}
use Rattle.std.specs.List.{enumerate_from}
use Rattle.qe_mem.specs.Kept.{empty_table, empty_tables}
use Rattle.qe_mem.proofs.tables.MemTables.empty.Given as goal

abbrev pub invariant-loop-number : goal.invariant-loop-number
invariant-loop-number l = l.tables.items ++ map (λ numbered. empty_table l.layout numbered.0 numbered.1) (enumerate_from l.number (drop l.number l.layout.tables)) ≡ empty_tables l.layout
