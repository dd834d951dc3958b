use Rattle.std.proofs.Common.{arith, ◌≡◌, ◌<◌, length, subst, sym, true, false}
use Rattle.std.proofs.lemmas.Bool.{false≢true}
use Rattle.std.proofs.lemmas.Bool.Decides.{nat_tests}
use Rattle.qe_node.proofs.Causes.{wrote_as, wrote_more}
use Rattle.qe_node.proofs.Wrote.{IsWriting, failed_writes, part_taken, writing_more}
use Rattle.qe_node.proofs.port.write_all.Goals as goal

pub returns-in_err-count : goal.returns-in_err-count
returns-in_err-count g c =
    let before = g.P.Outer.seen c.args.port.now in
    let now = g.P.Outer.seen c.pieces.port in
    let next = g.P.Outer.seen c.write.new.self in
    let some : 0 < length c.pieces.rest.now = grind (arith, nat_tests) in
    failed_writes c.from_residual.result c.in_err-count.field-0.0 before next c.args.piece.now c.from_residual.ensures.1 (part_taken c.args.piece.now c.pieces.rest.now before now next c.pieces.invariant.writing some c.in_err-count.ensures.failed)
    (wrote_more before now next (true ≡ true) c.pieces.invariant.wrote (record { cause = c.in_err-count.ensures.cause; others = c.in_err-count.ensures.others }))

pub pieces-preserved : goal.pieces-preserved
pieces-preserved g c =
    let before = g.P.Outer.seen c.args.port.now in
    let now = g.P.Outer.seen c.pieces.port in
    let next = g.P.Outer.seen c.write.new.self in record {
      writing = subst (λ rest. IsWriting c.args.piece.now rest before next) (sym c.split_at.ensures.back)
          (writing_more c.args.piece.now c.pieces.rest.now before now next c.in_ok-count.count c.pieces.invariant.writing c.in_ok-count.ensures.bytes);
      wrote = wrote_more before now next ⊥ c.pieces.invariant.wrote
          (wrote_as now next (false ≡ true) ⊥ (λ failed. false≢true failed) (λ none. absurd none) (record { cause = c.in_ok-count.ensures.cause; others = c.in_ok-count.ensures.others }));
    }
