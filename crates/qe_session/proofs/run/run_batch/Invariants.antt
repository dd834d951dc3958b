use Rattle.std.proofs.Common.{◌≡◌, take}
use Rattle.qe_session.specs.Batches.{Accepts}
use Rattle.qe_session.specs.Standing.{InOrder, seen_in}
use Rattle.qe_session.proofs.run.run_batch.Given as goal

abbrev pub invariant-loop-op : goal.invariant-loop-op
invariant-loop-op g l =
    Accepts l.schema (take l.op-index l.ops) l.answers (seen_in g.C.Connector.seen l.initial.view) (seen_in g.C.Connector.seen l.view) × InOrder g.C.Connector.seen l.view × (l.view.schema ≡ l.schema)
