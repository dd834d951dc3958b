use Rattle.std.proofs.Common.{◌≡◌, ◌++◌, map, drop}
use Rattle.std.specs.List.{filter_map}
use Rattle.psl_rules.specs.Parts.{name_in}
use Rattle.psl_parts.proofs.arguments.push_names.Given as goal

abbrev pub invariant-loop-item : goal.invariant-loop-item
invariant-loop-item l =
    map (λ name. name.now) l.names.items ++ filter_map name_in (drop l.item-index l.item-items) ≡ map (λ name. name.now) l.fn.names.items ++ filter_map name_in l.item-items
