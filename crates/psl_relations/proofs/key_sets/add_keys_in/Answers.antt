use Rattle.std.proofs.Common.{sym, subst, map, filter, List, [], ◌∷◌, None}
use Rattle.psl_text.specs.declared.tree.Attribute.{Attribute}
use Rattle.psl_text.specs.declared.tree.Entry.{Entry}
use Rattle.psl_rules.specs.Keys.{is_key, keys_in, key_over}
use Rattle.psl_relations.specs.Sets.{AddsAll}
use Rattle.psl_relations.proofs.key_sets.add_keys_in.Goals as goal

pub returns-in_ok-add_field_keys-in-Field : goal.returns-in_ok-add_field_keys-in-Field
returns-in_ok-add_field_keys-in-Field c =
    subst (λ (entry : Entry). AddsAll c.args.sets.now c.add_field_keys.new.sets (keys_in entry)) (sym c.in-Field.is)
    (subst (λ (attributes : List Attribute). AddsAll c.args.sets.now c.add_field_keys.new.sets (map (λ attribute. key_over attribute (c.in-Field.name.text ∷ []) None) (filter is_key attributes))) c.as_slice.ensures c.in_ok-add_field_keys-in-Field.ensures)
