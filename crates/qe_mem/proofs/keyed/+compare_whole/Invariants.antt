use Rattle.std.proofs.Common.{length}
use Rattle.qe_mem.proofs.keyed.+compare_whole.Given as goal

abbrev pub decreases-compare_whole : goal.decreases-compare_whole
decreases-compare_whole l = length l.values.now
