use Rattle.std.proofs.Common.{◌≡◌, ◌++◌, map}
use Rattle.qe_mem.specs.Plans.{swap_at}
use Rattle.qe_mem.proofs.pending.Pending.swaps.Given as goal

abbrev pub invariant-loop-place : goal.invariant-loop-place
invariant-loop-place l = l.swaps ++ map (swap_at l.rows) l.place-iterator ≡ map (swap_at l.rows) l.fn.self
