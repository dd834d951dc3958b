use Rattle.std.proofs.Common.{◌≡◌, ◌++◌, map, take}
use Rattle.qe_view.specs.After.{pair_row}
use Rattle.qe_plain.proofs.rows.rows_and_pairs.Given as goal

abbrev pub invariant-loop-pair : goal.invariant-loop-pair
invariant-loop-pair l = l.all.items ≡ l.fn.rows ++ map pair_row (take l.pair-index l.pairs)
