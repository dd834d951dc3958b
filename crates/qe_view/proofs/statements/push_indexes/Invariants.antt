use Rattle.std.proofs.Common.{◌≡◌, ◌++◌, ◌+◌, drop}
use Rattle.std.specs.Prelude.{string_bytes}
use Rattle.std.specs.List.{flat_map, enumerate_from}
use Rattle.qe_view.specs.LayoutText.{index_text}
use Rattle.qe_view.proofs.statements.push_indexes.Given as goal

-- the indexes that are left go behind what is written
abbrev pub invariant-loop-columns : goal.invariant-loop-columns
invariant-loop-columns l =
    (l.number ≡ l.columns-index)
    × (string_bytes l.text ++ flat_map (index_text l.table) (enumerate_from (l.number + 1) (drop l.columns-index l.columns-items)) ≡ string_bytes l.initial.text ++ flat_map (index_text l.table) (enumerate_from 1 l.columns-items))
