use Rattle.std.proofs.Common.{◌≡◌, ◌+◌, ◌-◌, ◌<◌, length, take, ap, ◌∙◌, arith}
use Rattle.qe_mem.specs.Turns.{left_all}
use Rattle.qe_mem.proofs.Turning.{leave_more}
use Rattle.qe_mem.proofs.listing.Listing.leave_all.Goals as goal

pub turns-preserved : goal.turns-preserved
turns-preserved c =
    let back : c.turns.left - 1 + 1 ≡ c.turns.left = omega arith in
    let within : c.turns.left - 1 < length c.args.turns.now = omega arith in
    (omega arith, leave_more c.args.turns.now (c.turns.left - 1) c.index-turns-left.result c.turns.self c.leave.new.self _ within c.index-turns-left.is (ap (λ n. left_all (take n c.args.turns.now) c.turns.self) back ∙ c.turns.invariant.1) c.leave.ensures)
