use Rattle.std.proofs.Common.{◌≡◌, List, ℕ, drop, [], ◌∷◌, None}
use Rattle.psl_text.specs.declared.tree.Attribute.{Attribute}
use Rattle.psl_rules.specs.Keys.{key_over}
use Rattle.psl_rules.specs.declared.key.Key.{Key}
use Rattle.psl_relations.specs.Sets.{FieldSet, Collects}
use Rattle.psl_relations.proofs.Added.{has_or, made}
use Rattle.psl_relations.proofs.key_sets.add_field_keys.Given as goal

abbrev pub invariant-loop-attribute : goal.invariant-loop-attribute
invariant-loop-attribute l =
    let keys : List Attribute → List Key = made (λ attribute. key_over attribute (l.name.text ∷ []) None) in
    (set : FieldSet) (names : List (List ℕ)) → Collects set names → has_or l.sets (keys (drop l.attribute-index l.attributes)) set names ≡ has_or l.fn.sets (keys l.attributes) set names
