use Rattle.std.proofs.Common.{◌≡◌, drop}
use Rattle.qe_writing.specs.Fill.{given_for}
use Rattle.qe_ops.proofs.fill.given.Given as goal

-- the values so far are for other columns
abbrev pub invariant-loop-value : goal.invariant-loop-value
invariant-loop-value l = given_for l.column (drop l.value-index l.values) ≡ given_for l.column l.values
