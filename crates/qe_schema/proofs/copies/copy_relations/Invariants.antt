use Rattle.std.proofs.Common.{◌≡◌, take}
use Rattle.qe_schema.proofs.copies.copy_relations.Given as goal

-- the items so far
abbrev pub invariant-loop-item : goal.invariant-loop-item
invariant-loop-item l = l.copy ≡ take l.item-index l.item-items
