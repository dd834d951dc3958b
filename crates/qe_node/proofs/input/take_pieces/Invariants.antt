use Rattle.std.proofs.Common.{◌≡◌, ◌≤◌, ◌<◌, ◌+◌, length, false}
use Rattle.qe_base.specs.Causes.{HasCause}
use Rattle.qe_node.specs.Port.{OnlyMoved}
use Rattle.qe_node.specs.Run.{longest_input}
use Rattle.qe_node.specs.Taking.{has_newline}
use Rattle.qe_node.proofs.Reading.{IsReading}
use Rattle.qe_node.proofs.input.take_pieces.Given as goal
use Rattle.qe_session.specs.Standing.{Ready}

abbrev pub invariant-pieces : goal.invariant-pieces
invariant-pieces g l =
    let kept = g.C.Connector.seen in
    let seen = g.P.Outer.seen in
    record {
      reading : IsReading longest_input l.schema l.pending.items l.room (kept l.fn.core.view.below) (kept l.core.view.below) l.fn.place l.place (seen l.fn.port) (seen l.port);
      some : 0 < length l.piece;
      one_line : has_newline l.pending.items ≡ false;
      few : l.place + l.room ≤ 67108866;
      read_cause : HasCause (seen l.fn.port).reads (seen l.port).reads ⊥;
      write_cause : HasCause (seen l.fn.port).writes (seen l.port).writes ⊥;
      moved : OnlyMoved (seen l.fn.port) (seen l.port);
      attached : (kept l.core.view.below).attached ≡ (kept l.fn.core.view.below).attached;
      schema : l.core.schema ≡ l.schema;
      ready : Ready kept l.core;
    }

abbrev pub decreases-pieces : goal.decreases-pieces
decreases-pieces g l = l.room
