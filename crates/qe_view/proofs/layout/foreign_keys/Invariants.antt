use Rattle.std.proofs.Common.{◌≡◌, map, take}
use Rattle.qe_view.specs.Layouts.{foreign_key_of}
use Rattle.qe_view.proofs.layout.foreign_keys.Given as goal

-- the keys so far
abbrev pub invariant-loop-relation : goal.invariant-loop-relation
invariant-loop-relation l = l.keys ≡ map foreign_key_of (take l.relation-index l.relations)
