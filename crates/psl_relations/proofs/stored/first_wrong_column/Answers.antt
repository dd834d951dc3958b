use Rattle.std.proofs.Common.{◌∙◌, ap, refl, map, Bor, List, ℕ}
use Rattle.std.specs.List.{flat_map}
use Rattle.psl_text.specs.declared.tree.Block.{Block}
use Rattle.psl_text.specs.declared.tree.Tree.{Tree}
use Rattle.psl_rules.specs.Parts.{first, earlier, models}
use Rattle.psl_rules.specs.Stored.{wrongly_stored, stored_columns}
use Rattle.psl_parts.proofs.Firsts.{turn_each, ended, flat_map_map}
use Rattle.psl_relations.proofs.stored.first_wrong_column.Goals as goal

abbrev wrong : Tree → Block → List ℕ
wrong tree block = wrongly_stored (stored_columns tree block)

pub loop-model-preserved : goal.loop-model-preserved
loop-model-preserved c =
    turn_each (λ (block : Bor Block). wrong c.args.types.now block.now) c.as_slice-model-items.result.now c.loop-model.model-index c.model-item.result c.loop-model.found c.earlier-found.result _ c.loop-model-test.true c.model-item.is
    (c.earlier-found.ensures ∙ ap (earlier c.loop-model.found) c.in_ok-wrong_columns.ensures) c.loop-model.invariant

pub returns : goal.returns
returns c =
    let wrong_in = wrong c.args.types.now in
    ended (flat_map (λ (block : Bor Block). wrong_in block.now)) c.as_slice-model-items.result.now c.loop-model.model-index c.loop-model.found _ c.loop-model-test.false refl c.loop-model.invariant
    ∙ ap first (flat_map_map (λ (block : Bor Block). block.now) wrong_in c.as_slice-model-items.result.now ∙ ap (flat_map wrong_in) (ap (map (λ (block : Bor Block). block.now)) c.as_slice-model-items.ensures.value ∙ c.in_ok-blocks_of.ensures ∙ ap models c.tree.ensures))
