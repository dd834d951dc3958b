use Rattle.std.proofs.Common.{◌≡◌}
use Rattle.qe_session.specs.Standing.{Ready}
use Rattle.bench_storage.proofs.filled.put_all.Given as goal

-- the core stays ready, over what is attached as it was
abbrev pub invariant-loop-number : goal.invariant-loop-number
invariant-loop-number g l =
    let seen = g.C.Connector.seen in
    record {
      attached : (seen l.core.view.below).attached ≡ (seen l.fn.core.view.below).attached;
      schema : l.core.schema ≡ l.schema;
      ready : Ready seen l.core;
    }
