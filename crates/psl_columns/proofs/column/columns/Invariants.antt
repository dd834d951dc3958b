use Rattle.std.proofs.Common.{◌≡◌, ◌++◌, List, map, filter, drop}
use Rattle.std.specs.List.{filter_map}
use Rattle.psl_text.specs.declared.tree.Entry.{Entry}
use Rattle.qe_base.specs.declared.schema.Column.{Column}
use Rattle.psl_rules.specs.Parts.{field_of}
use Rattle.psl_rules.specs.Names.{is_column}
use Rattle.psl_sound.specs.SchemaOf.{column_of}
use Rattle.psl_columns.proofs.column.columns.Given as goal

abbrev pub invariant-loop-entry : goal.invariant-loop-entry
invariant-loop-entry l =
    let columns : List Entry → List Column = λ entries. map (column_of l.enums) (filter (is_column l.enums) (filter_map field_of entries)) in
    l.columns ++ columns (drop l.entry-index l.entry-items) ≡ columns l.entry-items
