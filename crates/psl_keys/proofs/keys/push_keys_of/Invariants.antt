use Rattle.std.proofs.Common.{◌≡◌, ◌++◌, List, [], ◌∷◌, None, map, drop, filter}
use Rattle.psl_text.specs.declared.tree.Attribute.{Attribute}
use Rattle.psl_rules.specs.declared.key.Key.{Key}
use Rattle.psl_rules.specs.Keys.{key_over, is_key}
use Rattle.psl_keys.proofs.keys.push_keys_of.Given as goal

abbrev pub invariant-loop-attribute : goal.invariant-loop-attribute
invariant-loop-attribute l =
    let made : List Attribute → List Key = λ attributes. map (λ attribute. key_over attribute (l.field.text ∷ []) None) (filter is_key attributes) in
    l.keys.items ++ made (drop l.attribute-index l.attributes) ≡ l.fn.keys.items ++ made l.attributes
