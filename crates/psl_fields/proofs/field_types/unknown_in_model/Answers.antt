use Rattle.std.proofs.Common.{List, ◌||◌}
use Rattle.std.specs.List.{filter_map}
use Rattle.psl_text.specs.declared.tree.Entry.{Entry}
use Rattle.psl_rules.specs.Parts.{ModelField, first, failing, field_of}
use Rattle.psl_rules.specs.Names.{is_column, is_relation, type_place}
use Rattle.psl_parts.proofs.Parted.{turn, parted_filter_map, parted_failing}
use Rattle.psl_fields.proofs.field_types.unknown_in_model.Goals as goal

pub loop-entry-preserved : goal.loop-entry-preserved
loop-entry-preserved c =
    let holds = λ (field : ModelField). is_column c.args.types.now field || is_relation c.args.types.now field in
    turn (λ (entries : List Entry). first (failing holds type_place (filter_map field_of entries))) (parted_filter_map field_of (λ fields. first (failing holds type_place fields)) (parted_failing holds type_place))
    c.as_slice-entry-items.result.now c.loop-entry.entry-index c.entry-item.result c.loop-entry.found c.unknown_at_entry-here.result c.earlier-found.result _
    c.loop-entry-test.true c.entry-item.is c.unknown_at_entry-here.ensures c.earlier-found.ensures c.loop-entry.invariant
