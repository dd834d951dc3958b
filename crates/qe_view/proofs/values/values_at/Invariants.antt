use Rattle.std.proofs.Common.{◌≡◌, take}
use Rattle.qe_schema.specs.Columns.{at_columns}
use Rattle.qe_view.proofs.values.values_at.Given as goal

abbrev pub invariant-loop-column : goal.invariant-loop-column
invariant-loop-column l = l.values ≡ at_columns (take l.column-index l.columns) l.row
