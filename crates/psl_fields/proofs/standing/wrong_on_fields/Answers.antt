use Rattle.std.proofs.Common.{◌≡◌, ◌∙◌, ap}
use Rattle.std.proofs.lemmas.List.Concat.{flat_map-append}
use Rattle.psl_rules.specs.Parts.{first, earlier, field_of, failing}
use Rattle.psl_rules.specs.Attributes.{wrong_on_fields, stands_rightly, attribute_place}
use Rattle.psl_parts.proofs.Entries.{turn_some}
use Rattle.psl_fields.proofs.standing.wrong_on_fields.Goals as goal

pub loop-entry-preserved : goal.loop-entry-preserved
loop-entry-preserved c =
    turn_some field_of (wrong_on_fields c.args.types.now) (flat_map-append (λ field. failing (stands_rightly c.args.types.now field.type.text) attribute_place field.attributes))
    c.as_slice-entry-items.result.now c.loop-entry.entry-index c.entry-item.result c.loop-entry.found c.earlier-found.result _
    c.loop-entry-test.true c.entry-item.is (c.earlier-found.ensures ∙ ap (earlier c.loop-entry.found) c.wrong_on_field.ensures) c.loop-entry.invariant
