use Rattle.std.proofs.Common.{◌≡◌, ◌++◌, map, drop}
use Rattle.psl_sound.specs.SchemaOf.{side_b}
use Rattle.psl_values.proofs.numbered.all_sides_b.Given as goal

abbrev pub invariant-loop-pair : goal.invariant-loop-pair
invariant-loop-pair l = map (λ end. end.now) l.sides.items ++ map side_b (map (λ pair. pair.now) (drop l.pair-index l.lists)) ≡ map side_b (map (λ pair. pair.now) l.lists)
