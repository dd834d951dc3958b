use Rattle.std.proofs.Common.{not, ap, ◌∙◌}
use Rattle.psl_text.specs.declared.tree.Attribute.{Attribute}
use Rattle.psl_rules.specs.Parts.{noted}
use Rattle.psl_rules.specs.Arguments.{field_parameters, arguments_fit}
use Rattle.psl_rules.specs.Attributes.{attribute_place}
use Rattle.psl_parts.proofs.Firsts.{turn_failing}
use Rattle.psl_fields.proofs.misgiven.misgiven_on_field.Goals as goal

pub loop-attribute-preserved : goal.loop-attribute-preserved
loop-attribute-preserved c =
    turn_failing (λ (attribute : Attribute). arguments_fit (field_parameters attribute.name.text) attribute.arguments) attribute_place
    c.args.attributes.now c.loop-attribute.attribute-index c.attribute-item.result c.loop-attribute.found c.noted-found.result _ c.loop-attribute-test.true c.attribute-item.is
    (c.noted-found.ensures ∙ ap (λ fits. noted c.loop-attribute.found (not fits) c.attribute-item.result.name.at) c.fit_on_field-is_right.ensures) c.loop-attribute.invariant
