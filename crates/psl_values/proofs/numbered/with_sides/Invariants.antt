use Rattle.std.proofs.Common.{◌≡◌, ◌++◌, map, filter, drop}
use Rattle.std.specs.List.{enumerate_from}
use Rattle.psl_relations.specs.Back.{Side, same_side}
use Rattle.psl_values.specs.Named.{placed, lie_on}
use Rattle.psl_values.proofs.Sided.{on_side}
use Rattle.psl_values.proofs.numbered.with_sides.Given as goal

abbrev pub invariant-loop-number : goal.invariant-loop-number
invariant-loop-number l =
    (side : Side) → map (λ one. placed one.1) (filter (λ one. same_side one.0 side) l.sided.items) ++ on_side side (enumerate_from l.number (map (λ end. end.now) (drop l.number l.ends)))
    ≡ lie_on side (map (λ end. end.now) l.ends)
