use Rattle.std.proofs.Common.{◌≡◌, ◌≤◌, length, ℕ, arith}
use Rattle.qe_overlay.specs.Held.{held_in}
use Rattle.qe_overlay.proofs.Undoing.{gone_back}
use Rattle.qe_overlay.proofs.overlay.Overlay.back.Goals as goal

at_mark : (count mark left : ℕ) → count ≡ left → count ≤ mark → mark ≤ left → left ≡ mark
at_mark count mark left is most least = omega arith

pub returns : goal.returns
returns c =
    gone_back (held_in c.args.self.now) (held_in c.changes.self) c.args.to.0 c.changes.invariant.0
    (at_mark c.mark.result.0 c.args.to.0 (length (held_in c.changes.self).past) c.mark.ensures c.changes-test.false c.changes.invariant.1)
    c.requires
