use Rattle.std.proofs.Common.{◌≡◌, ◌||◌, ℕ, List, drop, Bor}
use Rattle.std.specs.HashSet.{contains}
use Rattle.psl_keys.specs.Belongs.{same_pair}
use Rattle.psl_keys.proofs.Pairs.{in_one}
use Rattle.psl_keys.proofs.members.pairs_of.Given as goal

abbrev pub invariant-loop-block : goal.invariant-loop-block
invariant-loop-block l = (pair : Bor (List ℕ) × Bor (List ℕ)) → (contains same_pair l.pairs pair || in_one pair (drop l.block-index l.block-items)) ≡ in_one pair l.block-items
