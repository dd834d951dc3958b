use Rattle.std.proofs.Common.{◌≡◌, ◌++◌, map, drop}
use Rattle.psl_sound.specs.SchemaOf.{number_among}
use Rattle.psl_columns.proofs.key.numbers_among.Given as goal

abbrev pub invariant-loop-name : goal.invariant-loop-name
invariant-loop-name l =
    l.numbers ++ map (number_among (map (λ name. name.now) l.all)) (map (λ name. name.now) (drop l.name-index l.names))
    ≡ map (number_among (map (λ name. name.now) l.all)) (map (λ name. name.now) l.names)
