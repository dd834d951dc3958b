use Rattle.std.proofs.Common.{◌≡◌, map, not, ap, sym, ◌∙◌}
use Rattle.psl_text.specs.declared.tree.Attribute.{Attribute}
use Rattle.psl_rules.specs.Parts.{noted}
use Rattle.qe_text.specs.Lists.{is_among}
use Rattle.psl_rules.specs.Attributes.{attribute_place}
use Rattle.psl_parts.proofs.Firsts.{turn_failing}
use Rattle.std.specs.Prelude.{bytes_eq}
use Rattle.psl_fields.proofs.Fitting.{any_mapped}
use Rattle.psl_fields.proofs.attributes.unknown.Goals as goal

pub loop-attribute-preserved : goal.loop-attribute-preserved
loop-attribute-preserved c =
    let is_known = λ (attribute : Attribute). is_among attribute.name.text (map (λ name. name.now) c.args.names.now) in
    let known_is : c.is_among-is_known.result ≡ is_known c.attribute-item.result = c.is_among-is_known.ensures ∙ sym (any_mapped (bytes_eq c.attribute-item.result.name.text) (λ name. name.now) c.args.names.now) in
    turn_failing is_known attribute_place c.args.attributes.now c.loop-attribute.attribute-index c.attribute-item.result c.loop-attribute.found c.noted-found.result _
    c.loop-attribute-test.true c.attribute-item.is (c.noted-found.ensures ∙ ap (λ known. noted c.loop-attribute.found (not known) c.attribute-item.result.name.at) known_is) c.loop-attribute.invariant
