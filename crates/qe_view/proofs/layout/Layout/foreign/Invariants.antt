use Rattle.std.proofs.Common.{◌≡◌, drop}
use Rattle.std.specs.Prelude.{slice_get}
use Rattle.qe_view.specs.Layouts.{foreign_columns}
use Rattle.qe_view.proofs.layout.Layout.foreign.Given as goal

-- what is sought stands among the keys that are left
abbrev pub invariant-loop-key : goal.invariant-loop-key
invariant-loop-key l = slice_get (foreign_columns l.table.0 (drop l.key-index l.key-items)) l.left ≡ slice_get (foreign_columns l.table.0 l.key-items) l.number
