use Rattle.std.proofs.Common.{◌≡◌, ◌++◌, map, filter, drop}
use Rattle.psl_relations.specs.Back.{Side, same_side, is_on}
use Rattle.psl_relations.proofs.sides.with_sides.Given as goal

abbrev pub invariant-loop-end : goal.invariant-loop-end
invariant-loop-end l = (side : Side) → map (λ one. one.1.now) (filter (λ one. same_side one.0 side) l.sided.items) ++ filter (is_on side) (drop l.end-index l.ends) ≡ filter (is_on side) l.ends
