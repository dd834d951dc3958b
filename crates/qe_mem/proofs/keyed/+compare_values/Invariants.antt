use Rattle.std.proofs.Common.{length}
use Rattle.qe_mem.proofs.keyed.+compare_values.Given as goal

abbrev pub decreases-compare_values : goal.decreases-compare_values
decreases-compare_values l = length l.values.now
