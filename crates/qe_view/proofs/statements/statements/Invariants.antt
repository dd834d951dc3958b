use Rattle.std.proofs.Common.{◌≡◌, ◌++◌, take}
use Rattle.std.specs.Prelude.{string_bytes}
use Rattle.std.specs.List.{flat_map}
use Rattle.qe_view.specs.LayoutText.{indexes_text}
use Rattle.qe_view.proofs.statements.statements.Given as goal

-- the indexes of the tables so far
abbrev pub invariant-loop-table : goal.invariant-loop-table
invariant-loop-table l = string_bytes l.text ≡ string_bytes l.initial.text ++ flat_map indexes_text (take l.table-index l.tables)
