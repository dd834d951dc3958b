use Rattle.std.proofs.Common.{◌≡◌, ◌∙◌, ap, map, Bor, List, ℕ}
use Rattle.std.proofs.lemmas.List.Concat.{flat_map-append}
use Rattle.psl_rules.specs.Parts.{first, earlier, field_of, failing}
use Rattle.psl_rules.specs.Attributes.{attribute_place}
use Rattle.psl_rules.specs.Defaults.{wrong_counters, counts_rightly}
use Rattle.psl_parts.proofs.Entries.{turn_some}
use Rattle.psl_keys.proofs.counters.wrong_counters.Goals as goal

pub loop-entry-preserved : goal.loop-entry-preserved
loop-entry-preserved c =
    let ids = map (λ (id : Bor (List ℕ)). id.now) c.args.ids.now in
    turn_some field_of (wrong_counters ids) (flat_map-append (λ field. failing (counts_rightly ids field.name.text) attribute_place field.attributes))
    c.as_slice-entry-items.result.now c.loop-entry.entry-index c.entry-item.result c.loop-entry.found c.earlier-found.result _
    c.loop-entry-test.true c.entry-item.is (c.earlier-found.ensures ∙ ap (earlier c.loop-entry.found) c.wrong_counter.ensures) c.loop-entry.invariant
