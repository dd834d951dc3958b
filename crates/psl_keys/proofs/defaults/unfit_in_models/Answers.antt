use Rattle.std.proofs.Common.{◌∙◌, ap, refl, Bor}
use Rattle.std.specs.List.{flat_map}
use Rattle.psl_text.specs.declared.tree.Block.{Block}
use Rattle.psl_rules.specs.Parts.{first, earlier, fields}
use Rattle.psl_parts.proofs.Firsts.{turn_each, ended, flat_map_map}
use Rattle.psl_keys.specs.Unfit.{unfit}
use Rattle.psl_keys.proofs.defaults.unfit_in_models.Goals as goal

pub loop-model-preserved : goal.loop-model-preserved
loop-model-preserved c =
    turn_each (λ (block : Bor Block). unfit c.args.members.now (fields block.now)) c.args.models.now c.loop-model.model-index c.model-item.result c.loop-model.found c.earlier-found.result _ c.loop-model-test.true c.model-item.is
    (c.earlier-found.ensures ∙ ap (earlier c.loop-model.found) c.in_ok-unfit_in_model.ensures) c.loop-model.invariant

pub returns : goal.returns
returns c =
    ended (flat_map (λ (block : Bor Block). unfit c.args.members.now (fields block.now))) c.args.models.now c.loop-model.model-index c.loop-model.found _ c.loop-model-test.false refl c.loop-model.invariant
    ∙ ap first (flat_map_map (λ (block : Bor Block). block.now) (λ block. unfit c.args.members.now (fields block)) c.args.models.now)
