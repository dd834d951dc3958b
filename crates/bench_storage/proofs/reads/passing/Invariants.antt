use Rattle.std.proofs.Common.{◌≡◌, ◌++◌, drop, filter}
use Rattle.qe_schema.specs.Tests.{passes}
use Rattle.bench_storage.proofs.reads.passing.Given as goal

-- what was kept, and what passes of the rows that are left
abbrev pub invariant-loop-row : goal.invariant-loop-row
invariant-loop-row l = l.kept ++ filter (passes l.tests) (drop l.row-index l.rows) ≡ filter (passes l.tests) l.rows
