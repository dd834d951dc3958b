use Rattle.std.proofs.Common.{◌≡◌, Bool, List, drop}
use Rattle.std.specs.Prelude.{bytes_eq, ◌&&◌}
use Rattle.std.specs.List.{list_any, filter_map}
use Rattle.psl_rules.specs.Parts.{ModelField, field_of}
use Rattle.psl_rules.specs.Names.{is_column}
use Rattle.psl_parts.proofs.columns.names_column.Given as goal

abbrev pub invariant-loop-entry : goal.invariant-loop-entry
invariant-loop-entry l =
    let named : List ModelField → Bool = list_any (λ field. bytes_eq l.name field.name.text && is_column l.types field) in
    named (filter_map field_of (drop l.entry-index l.entry-items)) ≡ named (filter_map field_of l.entry-items)
