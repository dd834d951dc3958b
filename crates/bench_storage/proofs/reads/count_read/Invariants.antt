use Rattle.bench_storage.proofs.reads.count_read.Given as goal
use Rattle.bench_storage.specs.Over.{IsOver}

-- the connector stays attached
abbrev pub invariant-loop-turn : goal.invariant-loop-turn
invariant-loop-turn g l = IsOver l.layout (g.C.Connector.seen l.tables)
