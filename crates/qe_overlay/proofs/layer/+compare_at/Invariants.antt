use Rattle.std.proofs.Common.{length}
use Rattle.qe_overlay.proofs.layer.+compare_at.Given as goal

abbrev pub decreases-compare_at : goal.decreases-compare_at
decreases-compare_at l = length l.columns.now
