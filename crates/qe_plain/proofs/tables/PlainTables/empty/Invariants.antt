use Rattle.std.proofs.Common.{◌≡◌, map, take}
use Rattle.qe_plain.specs.Kept.{nothing_kept}
use Rattle.qe_plain.proofs.tables.PlainTables.empty.Given as goal

abbrev pub invariant-loop-shape : goal.invariant-loop-shape
invariant-loop-shape l = l.tables.items ≡ map (λ _. nothing_kept) (take l._shape-index l.shapes)
