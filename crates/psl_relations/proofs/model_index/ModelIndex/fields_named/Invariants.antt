use Rattle.std.proofs.Common.{◌≡◌, ◌++◌, map, drop}
use Rattle.std.specs.List.{filter_map}
use Rattle.psl_rules.specs.Foreign.{field_named}
use Rattle.psl_relations.proofs.model_index.ModelIndex.fields_named.Given as goal

abbrev pub invariant-loop-name : goal.invariant-loop-name
invariant-loop-name l =
    l.fields.items ++ filter_map (field_named l.self) (map (λ name. name.now) (drop l.name-index l.names)) ≡ filter_map (field_named l.self) (map (λ name. name.now) l.names)
