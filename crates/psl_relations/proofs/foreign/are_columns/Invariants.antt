use Rattle.std.proofs.Common.{◌≡◌, drop}
use Rattle.std.specs.List.{list_all}
use Rattle.psl_rules.specs.Names.{is_column}
use Rattle.psl_relations.proofs.foreign.are_columns.Given as goal

abbrev pub invariant-loop-field : goal.invariant-loop-field
invariant-loop-field l = list_all (is_column l.types) (drop l.field-index l.fields) ≡ list_all (is_column l.types) l.fields
