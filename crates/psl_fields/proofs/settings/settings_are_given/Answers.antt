use Rattle.std.proofs.Common.{◌≡◌, ◌∙◌, ap, refl, map, Bor}
use Rattle.std.specs.List.{flat_map}
use Rattle.psl_text.specs.declared.tree.Block.{Block}
use Rattle.psl_rules.specs.Parts.{first, earlier}
use Rattle.psl_rules.specs.Settings.{broken_settings}
use Rattle.psl_parts.proofs.Firsts.{turn_each, ended, flat_map_map}
use Rattle.psl_fields.proofs.settings.settings_are_given.Goals as goal

pub loop-block-preserved : goal.loop-block-preserved
loop-block-preserved c =
    turn_each (λ (block : Bor Block). broken_settings block.now) c.as_slice-block-items.result.now c.loop-block.block-index c.block-item.result c.loop-block.found c.earlier-found.result _ c.loop-block-test.true c.block-item.is
    (c.earlier-found.ensures ∙ ap (earlier c.loop-block.found) c.in_ok-broken_settings.ensures) c.loop-block.invariant

pub returns : goal.returns
returns c =
    ended (flat_map (λ (block : Bor Block). broken_settings block.now)) c.as_slice-block-items.result.now c.loop-block.block-index c.loop-block.found _ c.loop-block-test.false refl c.loop-block.invariant
    ∙ ap first (flat_map_map (λ (block : Bor Block). block.now) broken_settings c.as_slice-block-items.result.now ∙ ap (flat_map broken_settings) (ap (map (λ (block : Bor Block). block.now)) c.as_slice-block-items.ensures.value ∙ c.in_ok-blocks_of.ensures))
