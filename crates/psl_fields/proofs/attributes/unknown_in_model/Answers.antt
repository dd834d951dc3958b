use Rattle.std.proofs.Common.{List, ◌++◌}
use Rattle.std.specs.List.{flat_map, filter_map}
use Rattle.psl_text.specs.declared.tree.Entry.{Entry}
use Rattle.psl_rules.specs.Parts.{first, field_of, block_attribute_of}
use Rattle.qe_text.specs.Lists.{is_among}
use Rattle.psl_rules.specs.Attributes.{unknown, field_attribute_names, model_attribute_names}
use Rattle.psl_parts.proofs.Parted.{turn}
use Rattle.psl_parts.proofs.Models.{parted_model}
use Rattle.psl_fields.proofs.attributes.unknown_in_model.Goals as goal

pub loop-entry-preserved : goal.loop-entry-preserved
loop-entry-preserved c =
    turn (λ (entries : List Entry). first (flat_map (λ field. unknown field_attribute_names field.attributes) (filter_map field_of entries) ++ unknown model_attribute_names (filter_map block_attribute_of entries)))
    (parted_model (λ field. unknown field_attribute_names field.attributes) (λ attribute. is_among attribute.name.text model_attribute_names))
    c.as_slice-entry-items.result.now c.loop-entry.entry-index c.entry-item.result c.loop-entry.found c.unknown_at_model_entry-here.result c.earlier-found.result _
    c.loop-entry-test.true c.entry-item.is c.unknown_at_model_entry-here.ensures c.earlier-found.ensures c.loop-entry.invariant
