use Rattle.std.proofs.Common.{ap, map, ◌∙◌, ℕ, List, Bor, true, false, codes}
use Rattle.psl_rules.specs.Parts.{given_names, given_text}
use Rattle.psl_rules.specs.Keys.{key_over}
use Rattle.psl_relations.proofs.Added.{one_key}
use Rattle.psl_relations.proofs.key_sets.add_block_key.Goals as goal

pub returns : goal.returns
returns c =
    one_key (λ attribute. key_over attribute (given_names (codes "fields") true attribute) (given_text (codes "name") false attribute)) c.args.attribute.now c.args.sets.now c.add_where_key.new.sets _
    (ap (map (λ (name : Bor (List ℕ)). name.now)) c.as_slice.ensures.value ∙ c.in_ok-names.ensures) c.in_ok-add_where_key.ensures
