use Rattle.std.proofs.Common.{◌≡◌, ◌∙◌, ap}
use Rattle.psl_rules.specs.Parts.{first, earlier, field_of}
use Rattle.psl_rules.specs.Keys.{optional_ids, is_optional_id}
use Rattle.psl_parts.proofs.Entries.{turn_some, kept_adds}
use Rattle.psl_keys.proofs.keys.first_optional_id.Goals as goal

pub loop-entry-preserved : goal.loop-entry-preserved
loop-entry-preserved c =
    turn_some field_of (optional_ids c.args.named.now) (kept_adds (λ field. field.name.at) (is_optional_id c.args.named.now)) c.as_slice-entry-items.result.now c.loop-entry.entry-index c.entry-item.result c.loop-entry.found c.earlier-found.result _
    c.loop-entry-test.true c.entry-item.is (c.earlier-found.ensures ∙ ap (earlier c.loop-entry.found) c.optional_id.ensures) c.loop-entry.invariant
