use Rattle.std.proofs.Common.{rules, ◌≡◌, ap, map, ◌∙◌, ℕ, List, Bor}
use Rattle.psl_text.specs.declared.tree.Block.{Block}
use Rattle.psl_rules.specs.Keys.{is_key_of}
use Rattle.psl_relations.proofs.key_sets.KeySets.has.Goals as goal

pub returns : goal.returns
returns c =
    let same : c.self.inside.model.now ≡ c.args.self.now = search rules in
    let names : List (List ℕ) = map (λ (name : Bor (List ℕ)). name.now) c.args.names.now in
    c.contains.ensures ∙ c.self.invariant c.in_ok-set.set names c.in_ok-set.ensures ∙ ap (λ (model : Block). is_key_of model names) same
