use Rattle.std.proofs.Common.{◌≡◌}
use Rattle.qe_overlay.proofs.layer.rows_of.Given as goal

abbrev pub invariant-loop-row : goal.invariant-loop-row
invariant-loop-row l = l.rows ≡ l.yielded
