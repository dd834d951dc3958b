use Rattle.std.proofs.Common.{◌≡◌, ◌++◌, List, [], ◌∷◌, None, map, drop, filter}
use Rattle.psl_text.specs.declared.tree.Attribute.{Attribute}
use Rattle.qe_base.specs.declared.schema.Key.{Key}
use Rattle.psl_rules.specs.Parts.{is_called}
use Rattle.psl_rules.specs.Keys.{key_over}
use Rattle.psl_columns.specs.Numbered.{numbered}
use Rattle.psl_columns.proofs.key.push_keys_of.Given as goal

abbrev pub invariant-loop-attribute : goal.invariant-loop-attribute
invariant-loop-attribute l =
    let made : List Attribute → List Key = λ attributes. map (numbered (map (λ name. name.now) l.columns)) (map (λ attribute. key_over attribute (l.field.text ∷ []) None) (filter (is_called l.called) attributes)) in
    l.keys ++ made (drop l.attribute-index l.attributes) ≡ l.fn.keys ++ made l.attributes
