use Rattle.std.proofs.Common.{◌≡◌, ◌∙◌, ap, subst, map, filter, ℕ, List, Bor}
use Rattle.std.specs.Prelude.{IfOk}
use Rattle.std.specs.List.{list_all}
use Rattle.psl_text.specs.declared.tree.Block.{Block}
use Rattle.psl_rules.specs.Parts.{models}
use Rattle.psl_rules.specs.Relations.{leads_to}
use Rattle.psl_rules.specs.Foreign.{are_required_key}
use Rattle.psl_relations.proofs.foreign.refers_to_key.Goals as goal

pub returns : goal.returns
returns c =
    subst (λ (names : List (List ℕ)). IfOk c.are_key_of_all.result (λ refers. refers ≡ list_all (λ model. are_required_key model names) (filter (leads_to c.args.end.now) (models c.args.targets.now))))
    (ap (map (λ (name : Bor (List ℕ)). name.now)) c.as_slice.ensures.value ∙ c.in_ok-names.ensures)
    (subst (λ (led : List Block). IfOk c.are_key_of_all.result (λ refers. refers ≡ list_all (λ model. are_required_key model (map (λ (name : Bor (List ℕ)). name.now) c.as_slice.result.now)) led)) c.led_to.ensures c.are_key_of_all.ensures)
