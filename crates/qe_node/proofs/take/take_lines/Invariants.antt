use Rattle.std.proofs.Common.{◌≡◌, ◌≤◌, ◌+◌, ◌++◌, length, false}
use Rattle.qe_node.specs.Port.{Wrote}
use Rattle.qe_node.specs.Taking.{TakesWhole, has_newline}
use Rattle.qe_node.proofs.take.take_lines.Given as goal
use Rattle.qe_session.specs.Standing.{Ready}

abbrev pub invariant-lines : goal.invariant-lines
invariant-lines g l =
    let kept = g.C.Connector.seen in
    let seen = g.P.Outer.seen in
    record {
      takes : TakesWhole l.schema (l.fn.pending.items ++ l.bytes) (l.pending.items ++ l.rest) (kept l.fn.core.view.below) (kept l.core.view.below) l.fn.place l.place (seen l.fn.port) (seen l.port);
      one_line : has_newline l.pending.items ≡ false;
      room : l.place + length l.rest ≤ l.fn.place + length l.bytes;
      wrote : Wrote (seen l.fn.port) (seen l.port) ⊥;
      attached : (kept l.core.view.below).attached ≡ (kept l.fn.core.view.below).attached;
      schema : l.core.schema ≡ l.schema;
      ready : Ready kept l.core;
    }

abbrev pub decreases-lines : goal.decreases-lines
decreases-lines g l = length l.rest
