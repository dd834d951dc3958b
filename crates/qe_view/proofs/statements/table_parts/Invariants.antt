use Rattle.std.proofs.Common.{◌≡◌, ◌++◌, map, take, drop}
use Rattle.std.specs.Prelude.{string_bytes}
use Rattle.std.specs.List.{enumerate_from}
use Rattle.qe_view.specs.LayoutText.{column_text, key_text}
use Rattle.qe_view.proofs.statements.table_parts.Given as goal

-- the columns so far
abbrev pub invariant-loop-column : goal.invariant-loop-column
invariant-loop-column l = map string_bytes l.parts.items ≡ map column_text (take l.column-index l.column-items)

-- the keys that are left go behind
abbrev pub invariant-loop-number : goal.invariant-loop-number
invariant-loop-number l =
    map string_bytes l.parts.items ++ map (key_text l.table.columns) (enumerate_from l.number (drop l.number l.table.keys)) ≡ map column_text l.table.columns ++ map (key_text l.table.columns) (enumerate_from 0 l.table.keys)
