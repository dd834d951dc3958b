use Rattle.std.proofs.Common.{◌≡◌, ◌++◌, List, map, drop}
use Rattle.std.specs.List.{flat_map}
use Rattle.qe_base.specs.declared.schema.Relation.{Relation}
use Rattle.psl_rules.specs.Relations.{End, partners_among}
use Rattle.psl_sound.specs.SchemaOf.{relation_between}
use Rattle.psl_values.proofs.relation.relations_held.Given as goal

abbrev pub invariant-loop-holder : goal.invariant-loop-holder
invariant-loop-holder l =
    let relations : List End → List Relation = flat_map (λ holder. map (relation_between l.models holder) (partners_among l.all holder)) in
    l.relations ++ relations (map (λ end. end.now) (drop l.holder-index l.held)) ≡ relations (map (λ end. end.now) l.held)
