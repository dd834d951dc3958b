use Rattle.std.proofs.Common.{◌≡◌, map, drop}
use Rattle.std.specs.List.{list_all}
use Rattle.psl_rules.specs.Attributes.{names_column}
use Rattle.psl_parts.proofs.columns.Columns.has_all.Given as goal

abbrev pub invariant-loop-name : goal.invariant-loop-name
invariant-loop-name l =
    list_all (names_column l.self.0 l.self.1) (map (λ name. name.now) (drop l.name-index l.names)) ≡ list_all (names_column l.self.0 l.self.1) (map (λ name. name.now) l.names)
