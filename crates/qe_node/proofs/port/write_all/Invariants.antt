use Rattle.std.proofs.Common.{length}
use Rattle.qe_node.specs.Port.{Wrote}
use Rattle.qe_node.proofs.Wrote.{IsWriting}
use Rattle.qe_node.proofs.port.write_all.Given as goal

abbrev pub invariant-pieces : goal.invariant-pieces
invariant-pieces g l =
    let seen = g.P.Outer.seen in
    record {
      writing : IsWriting l.piece l.rest (seen l.fn.port) (seen l.port);
      wrote : Wrote (seen l.fn.port) (seen l.port) ⊥;
    }

abbrev pub decreases-pieces : goal.decreases-pieces
decreases-pieces g l = length l.rest
