use Rattle.std.proofs.Common.{◌≡◌, take}
use Rattle.qe_plain.proofs.pairs.share_pairs.Given as goal

abbrev pub invariant-loop-pair : goal.invariant-loop-pair
invariant-loop-pair l = l.shared.items ≡ take l.pair-index l.pairs
