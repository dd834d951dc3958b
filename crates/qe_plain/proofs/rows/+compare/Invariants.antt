use Rattle.std.proofs.Common.{length}
use Rattle.qe_plain.proofs.rows.+compare.Given as goal

abbrev pub decreases-compare : goal.decreases-compare
decreases-compare l = length l.columns.now
