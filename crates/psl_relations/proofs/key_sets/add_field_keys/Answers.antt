use Rattle.std.proofs.Common.{ap, subst, ℕ, List, [], ◌∷◌, None}
use Rattle.psl_rules.specs.Keys.{is_key, key_over}
use Rattle.psl_relations.specs.Sets.{AddsWhere}
use Rattle.psl_relations.proofs.Added.{turn_key}
use Rattle.psl_relations.proofs.key_sets.add_field_keys.Goals as goal

pub loop-attribute-preserved : goal.loop-attribute-preserved
loop-attribute-preserved c = λ set names gathers.
    turn_key (λ attribute. key_over attribute (c.args.name.now.text ∷ []) None) c.args.attributes.now c.loop-attribute.attribute-index c.attribute-item.result c.loop-attribute.sets c.add_where_key.new.sets set names _ c.loop-attribute-test.true
    c.attribute-item.is
    (subst (λ (fields : List (List ℕ)). AddsWhere (is_key c.attribute-item.result) c.loop-attribute.sets c.add_where_key.new.sets fields) (ap (λ (text : List ℕ). text ∷ []) c.as_str.ensures.text) c.in_ok-add_where_key.ensures) gathers
    (c.loop-attribute.invariant set names gathers)
