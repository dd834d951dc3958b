use Rattle.std.proofs.Common.{◌≡◌, ◌∙◌, ap, refl, List, Bor, map}
use Rattle.std.specs.List.{flat_map}
use Rattle.psl_text.specs.declared.tree.Block.{Block}
use Rattle.psl_rules.specs.Parts.{first, earlier}
use Rattle.psl_rules.specs.Keys.{broken_ids}
use Rattle.psl_parts.proofs.Firsts.{turn_each, ended, flat_map_map}
use Rattle.psl_keys.proofs.keys.one_id.Goals as goal

pub loop-model-preserved : goal.loop-model-preserved
loop-model-preserved c =
    turn_each (λ (block : Bor Block). broken_ids block.now) c.as_slice-model-items.result.now c.loop-model.model-index c.model-item.result c.loop-model.found c.earlier-found.result _ c.loop-model-test.true c.model-item.is
    (c.earlier-found.ensures ∙ ap (earlier c.loop-model.found) c.in_ok-broken_id.ensures) c.loop-model.invariant

pub returns : goal.returns
returns c =
    ended (flat_map (λ (block : Bor Block). broken_ids block.now)) c.as_slice-model-items.result.now c.loop-model.model-index c.loop-model.found _ c.loop-model-test.false refl c.loop-model.invariant
    ∙ ap first (flat_map_map (λ (block : Bor Block). block.now) broken_ids c.as_slice-model-items.result.now ∙ ap (flat_map broken_ids) (ap (map (λ (block : Bor Block). block.now)) c.as_slice-model-items.ensures.value ∙ c.in_ok-blocks_of.ensures))
