use Rattle.std.proofs.Common.{length}
use Rattle.qe_mem.proofs.keyed.+compare_listed.Given as goal

abbrev pub decreases-compare_listed : goal.decreases-compare_listed
decreases-compare_listed l = length l.columns.now
