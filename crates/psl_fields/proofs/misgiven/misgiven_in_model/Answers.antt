use Rattle.std.proofs.Common.{List, ◌++◌}
use Rattle.std.specs.List.{flat_map, filter_map}
use Rattle.psl_text.specs.declared.tree.Entry.{Entry}
use Rattle.psl_rules.specs.Parts.{first, field_of, block_attribute_of}
use Rattle.psl_rules.specs.Arguments.{field_parameters, model_parameters, arguments_fit}
use Rattle.psl_rules.specs.Attributes.{misgiven}
use Rattle.psl_parts.proofs.Parted.{turn}
use Rattle.psl_parts.proofs.Models.{parted_model}
use Rattle.psl_fields.proofs.misgiven.misgiven_in_model.Goals as goal

pub loop-entry-preserved : goal.loop-entry-preserved
loop-entry-preserved c =
    turn (λ (entries : List Entry). first (flat_map (λ field. misgiven field_parameters field.attributes) (filter_map field_of entries) ++ misgiven model_parameters (filter_map block_attribute_of entries)))
    (parted_model (λ field. misgiven field_parameters field.attributes) (λ attribute. arguments_fit (model_parameters attribute.name.text) attribute.arguments))
    c.as_slice-entry-items.result.now c.loop-entry.entry-index c.entry-item.result c.loop-entry.found c.misgiven_at_entry-here.result c.earlier-found.result _
    c.loop-entry-test.true c.entry-item.is c.misgiven_at_entry-here.ensures c.earlier-found.ensures c.loop-entry.invariant
