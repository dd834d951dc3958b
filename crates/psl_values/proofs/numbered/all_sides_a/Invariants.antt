use Rattle.std.proofs.Common.{◌≡◌, ◌++◌, map, drop}
use Rattle.psl_sound.specs.SchemaOf.{side_a}
use Rattle.psl_values.proofs.numbered.all_sides_a.Given as goal

abbrev pub invariant-loop-pair : goal.invariant-loop-pair
invariant-loop-pair l = map (λ end. end.now) l.sides.items ++ map side_a (map (λ pair. pair.now) (drop l.pair-index l.lists)) ≡ map side_a (map (λ pair. pair.now) l.lists)
