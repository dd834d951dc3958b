use Rattle.std.proofs.Common.{◌≡◌, ◌++◌, map, filter, drop}
use Rattle.std.specs.List.{filter_map}
use Rattle.psl_rules.specs.Parts.{block_attribute_of}
use Rattle.psl_rules.specs.Attributes.{stands_once}
use Rattle.psl_fields.proofs.once.lone_names.Given as goal

abbrev pub invariant-loop-entry : goal.invariant-loop-entry
invariant-loop-entry l =
    map (λ name. name.now) l.names.items ++ map (λ attribute. attribute.name) (filter stands_once (filter_map block_attribute_of (drop l.entry-index l.entry-items)))
    ≡ map (λ attribute. attribute.name) (filter stands_once (filter_map block_attribute_of l.entry-items))
