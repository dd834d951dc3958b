use Rattle.std.proofs.Common.{◌≡◌, ◌∙◌, ap, map, subst, Bor, List, ℕ}
use Rattle.std.specs.Prelude.{IfOk}
use Rattle.std.specs.List.{flat_map}
use Rattle.psl_text.specs.declared.tree.Block.{Block}
use Rattle.psl_text.specs.declared.tree.Tree.{Tree}
use Rattle.psl_rules.specs.Parts.{first, fields, models}
use Rattle.psl_rules.specs.Defaults.{defaults_fit}
use Rattle.psl_keys.specs.Unfit.{unfit}
use Rattle.psl_keys.proofs.defaults.defaults_fit.Goals as goal

pub returns : goal.returns
returns c =
    let places : Tree → List Block → List ℕ = λ tree. flat_map (λ model. unfit tree (fields model)) in
    let models_are = ap (map (λ (model : Bor Block). model.now)) c.as_slice.ensures.value ∙ c.in_ok-models.ensures in
    let same : places c.in_ok-members.members (map (λ model. model.now) c.as_slice.result.now) ≡ defaults_fit c.args.tree.now =
    ap (places c.in_ok-members.members) models_are ∙ ap (λ tree. places tree (models c.args.tree.now)) c.in_ok-members.ensures in
    subst (λ (all : List ℕ). IfOk c.unfit_in_models.result (λ found. found ≡ first all)) same c.unfit_in_models.ensures
