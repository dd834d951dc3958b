use Rattle.std.proofs.Common.{◌≡◌, map, take, slice_get}
use Rattle.qe_reading.specs.Shape.{scalar_of}
use Rattle.qe_ops.proofs.shape.shape.Given as goal

-- the columns shown so far
abbrev pub invariant-loop-column : goal.invariant-loop-column
invariant-loop-column l = l.members ≡ map (λ column. scalar_of (slice_get l.table.columns column) column l.row) (take l.column-index l.column-items)
