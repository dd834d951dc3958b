use Rattle.std.proofs.Common.{◌∙◌, ap}
use Rattle.std.specs.Prelude.{not}
use Rattle.psl_rules.specs.Parts.{earlier, failing, block_attribute_of}
use Rattle.psl_rules.specs.Attributes.{is_over_columns, attribute_place}
use Rattle.psl_parts.proofs.Entries.{turn_some, kept_adds}
use Rattle.psl_fields.proofs.standing.wrong_on_entries.Goals as goal

pub loop-entry-preserved : goal.loop-entry-preserved
loop-entry-preserved c =
    let holds = is_over_columns c.args.columns.now.0 c.args.columns.now.1 in
    turn_some block_attribute_of (failing holds attribute_place) (kept_adds attribute_place (λ attribute. not (holds attribute)))
    c.as_slice-entry-items.result.now c.loop-entry.entry-index c.entry-item.result c.loop-entry.found c.earlier-found.result _
    c.loop-entry-test.true c.entry-item.is (c.earlier-found.ensures ∙ ap (earlier c.loop-entry.found) c.in_ok-wrong_on_model.ensures) c.loop-entry.invariant
