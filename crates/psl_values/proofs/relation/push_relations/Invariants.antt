use Rattle.std.proofs.Common.{◌≡◌, ◌++◌, map, drop}
use Rattle.psl_sound.specs.SchemaOf.{relation_between}
use Rattle.psl_values.proofs.relation.push_relations.Given as goal

abbrev pub invariant-loop-target : goal.invariant-loop-target
invariant-loop-target l =
    l.relations ++ map (relation_between l.models l.holder) (map (λ end. end.now) (drop l.target-index l.partners))
    ≡ l.fn.relations ++ map (relation_between l.models l.holder) (map (λ end. end.now) l.partners)
