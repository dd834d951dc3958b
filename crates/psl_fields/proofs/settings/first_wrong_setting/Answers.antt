use Rattle.std.proofs.Common.{◌∙◌, ap, refl}
use Rattle.std.specs.List.{flat_map}
use Rattle.psl_rules.specs.Parts.{earlier}
use Rattle.psl_rules.specs.Settings.{wrong_setting}
use Rattle.psl_parts.proofs.Firsts.{turn_each, ended}
use Rattle.psl_fields.proofs.settings.first_wrong_setting.Goals as goal

pub loop-entry-preserved : goal.loop-entry-preserved
loop-entry-preserved c =
    turn_each wrong_setting c.as_slice-entry-items.result.now c.loop-entry.entry-index c.entry-item.result c.loop-entry.found c.earlier-found.result _ c.loop-entry-test.true c.entry-item.is
    (c.earlier-found.ensures ∙ ap (earlier c.loop-entry.found) c.wrong_setting.ensures) c.loop-entry.invariant
