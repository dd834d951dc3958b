use Rattle.std.proofs.Common.{◌≡◌, ◌∙◌, sym, ap, refl, List, ℕ, Bor, map}
use Rattle.std.specs.List.{flat_map}
use Rattle.psl_text.specs.declared.tree.Block.{Block}
use Rattle.psl_rules.specs.Parts.{first, earlier, models, enums}
use Rattle.psl_rules.specs.Names.{repeated_fields, repeated_members}
use Rattle.psl_parts.proofs.Firsts.{turn_each, ended, flat_map_map, first_append}
use Rattle.psl_fields.proofs.names.field_names_are_distinct.Goals as goal

pub loop-model-preserved : goal.loop-model-preserved
loop-model-preserved c =
    turn_each (λ (block : Bor Block). repeated_fields block.now) c.as_slice-model-items.result.now c.loop-model.model-index c.model-item.result c.loop-model.found c.earlier-found.result _ c.loop-model-test.true c.model-item.is
    (c.earlier-found.ensures ∙ ap (earlier c.loop-model.found) c.in_ok-broken_fields.ensures) c.loop-model.invariant

pub loop-enumeration-preserved : goal.loop-enumeration-preserved
loop-enumeration-preserved c =
    turn_each (λ (block : Bor Block). repeated_members block.now) c.as_slice-enumeration-items.result.now c.loop-enumeration.enumeration-index c.enumeration-item.result c.loop-enumeration.found c.earlier-found-in-loop-enumeration.result _
    c.loop-enumeration-test.true c.enumeration-item.is (c.earlier-found-in-loop-enumeration.ensures ∙ ap (earlier c.loop-enumeration.found) c.in_ok-broken_members.ensures) c.loop-enumeration.invariant

pub returns : goal.returns
returns c =
    let models_found = ended (flat_map (λ (block : Bor Block). repeated_fields block.now)) c.as_slice-model-items.result.now c.loop-model.model-index c.loop-model.found _ c.loop-model-test.false refl c.loop-model.invariant in
    let enums_found = ended (flat_map (λ (block : Bor Block). repeated_members block.now)) c.as_slice-enumeration-items.result.now c.loop-enumeration.enumeration-index c.loop-enumeration.found _ c.loop-enumeration-test.false refl c.loop-enumeration.invariant in
    let models_are = ap (map (λ (block : Bor Block). block.now)) c.as_slice-model-items.ensures.value ∙ c.in_ok-blocks_of.ensures in
    let enums_are = ap (map (λ (block : Bor Block). block.now)) c.as_slice-enumeration-items.ensures.value ∙ c.in_ok-blocks_of-2.ensures in
    enums_found ∙ ap (λ r. earlier r (first (flat_map (λ (block : Bor Block). repeated_members block.now) c.as_slice-enumeration-items.result.now))) models_found
    ∙ ap (λ r. earlier (first (flat_map (λ (block : Bor Block). repeated_fields block.now) c.as_slice-model-items.result.now)) (first r)) (flat_map_map (λ (block : Bor Block). block.now) repeated_members c.as_slice-enumeration-items.result.now ∙ ap (flat_map repeated_members) enums_are)
    ∙ ap (λ r. earlier (first r) (first (flat_map repeated_members (enums c.args.tree.now)))) (flat_map_map (λ (block : Bor Block). block.now) repeated_fields c.as_slice-model-items.result.now ∙ ap (flat_map repeated_fields) models_are)
    ∙ sym (first_append (flat_map repeated_fields (models c.args.tree.now)) (flat_map repeated_members (enums c.args.tree.now)))
