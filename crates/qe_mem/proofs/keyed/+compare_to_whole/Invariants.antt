use Rattle.std.proofs.Common.{length}
use Rattle.qe_mem.proofs.keyed.+compare_to_whole.Given as goal

abbrev pub decreases-compare_to_whole : goal.decreases-compare_to_whole
decreases-compare_to_whole l = length l.columns.now
