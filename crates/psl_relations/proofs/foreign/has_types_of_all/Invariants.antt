use Rattle.std.proofs.Common.{◌≡◌, map, drop}
use Rattle.std.specs.List.{list_all}
use Rattle.psl_rules.specs.Foreign.{has_types_of}
use Rattle.psl_relations.proofs.foreign.has_types_of_all.Given as goal

abbrev pub invariant-loop-model : goal.invariant-loop-model
invariant-loop-model l = list_all (has_types_of l.end) (map (λ model. model.now) (drop l.model-index l.models)) ≡ list_all (has_types_of l.end) (map (λ model. model.now) l.models)
