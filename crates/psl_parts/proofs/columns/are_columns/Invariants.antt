use Rattle.std.proofs.Common.{◌≡◌, map, drop}
use Rattle.std.specs.List.{list_all}
use Rattle.psl_rules.specs.Attributes.{names_column}
use Rattle.psl_parts.proofs.columns.are_columns.Given as goal

abbrev pub invariant-loop-name : goal.invariant-loop-name
invariant-loop-name l =
    list_all (names_column l.types l.model) (map (λ name. name.now) (drop l.name-index l.names)) ≡ list_all (names_column l.types l.model) (map (λ name. name.now) l.names)
