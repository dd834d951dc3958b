use Rattle.std.proofs.Common.{◌≡◌, ◌++◌, map, drop}
use Rattle.psl_sound.specs.SchemaOf.{choice_of}
use Rattle.psl_columns.proofs.choice.choices.Given as goal

abbrev pub invariant-loop-enumeration : goal.invariant-loop-enumeration
invariant-loop-enumeration l =
    l.choices ++ map choice_of (map (λ block. block.now) (drop l.enumeration-index l.enumeration-items)) ≡ map choice_of (map (λ block. block.now) l.enumeration-items)
