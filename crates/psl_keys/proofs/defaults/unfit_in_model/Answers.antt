use Rattle.std.proofs.Common.{◌∙◌, ap}
use Rattle.std.proofs.lemmas.List.Concat.{flat_map-append}
use Rattle.psl_rules.specs.Parts.{earlier, field_of, failing}
use Rattle.psl_rules.specs.Attributes.{attribute_place}
use Rattle.psl_rules.specs.Defaults.{default_fits}
use Rattle.psl_keys.specs.Unfit.{unfit}
use Rattle.psl_parts.proofs.Entries.{turn_some}
use Rattle.psl_keys.proofs.defaults.unfit_in_model.Goals as goal

pub loop-entry-preserved : goal.loop-entry-preserved
loop-entry-preserved c =
    turn_some field_of (unfit c.args.members.now) (flat_map-append (λ field. failing (default_fits c.args.members.now field) attribute_place field.attributes))
    c.as_slice-entry-items.result.now c.loop-entry.entry-index c.entry-item.result c.loop-entry.found c.earlier-found.result _
    c.loop-entry-test.true c.entry-item.is (c.earlier-found.ensures ∙ ap (earlier c.loop-entry.found) c.in_ok-unfit_at_entry.ensures) c.loop-entry.invariant
