-- Ids, uniques and their names.
use Rattle.std.specs.Prelude.{ℕ, List, [], ◌∷◌, ◌++◌, Bool, true, false, ◌&&◌, ◌||◌, not, length, nat_le, map, filter, drop, if◌then◌else◌, Option, Some, None, unwrap_or, bytes_eq, codes}
use Rattle.std.specs.List.{list_any, list_all, flat_map, join_with_byte}
use Rattle.psl_text.specs.declared.tree.Attribute.{Attribute}
use Rattle.psl_text.specs.declared.tree.Entry.{Entry}
use Rattle.psl_text.specs.declared.tree.Entry.TheVariants as entry
use Rattle.psl_text.specs.declared.tree.Block.{Block}
use Rattle.psl_text.specs.declared.tree.Tree.{Tree}
use Rattle.psl_rules.specs.Parts.{Spelling, Places, ModelField, models, fields, block_attributes, is_called, has_attribute, given_names, given_text, place}
use Rattle.qe_text.specs.Lists.{repeats, is_among}
use Rattle.psl_rules.specs.Names.{same_name, is_optional}
use Rattle.psl_rules.specs.declared.key.Key.{Key}

-- ---- the id

abbrev pub id_places : List Attribute → Places
id_places attributes = map (λ attribute. attribute.name.at) (filter (is_called (codes "id")) attributes)

abbrev pub ids_in : Entry → Places
ids_in (entry.Setting name value) = []
ids_in (entry.Member name attributes docs) = []
ids_in (entry.Field name type mark attributes docs) = id_places attributes
ids_in (entry.Block attribute docs) = id_places (attribute ∷ [])

-- the places of `@id` and `@@id` in a model, in text order
abbrev pub ids_of : Block → Places
ids_of model = flat_map ids_in model.entries

-- the fields that `@@id` names
abbrev pub named_id : Block → List Spelling
named_id model = flat_map (given_names (codes "fields") true) (filter (is_called (codes "id")) (block_attributes model))

-- a field of the id, where `@@id` names these
abbrev pub is_id_field : List Spelling → ModelField → Bool
is_id_field named field = has_attribute (codes "id") field.attributes || is_among field.name.text named

abbrev pub is_optional_id : List Spelling → ModelField → Bool
is_optional_id named field = is_id_field named field && is_optional field.mark

-- the names of the fields with `@id`
abbrev pub marked_ids : List ModelField → List Spelling
marked_ids fields = map (λ field. field.name.text) (filter (λ field. has_attribute (codes "id") field.attributes) fields)

-- the names of the id's fields: the field with `@id`, or those of `@@id` in their order
abbrev pub id_names : Block → List Spelling
id_names model = marked_ids (fields model) ++ named_id model

-- where there is no id, the model's name; else the ids behind the first
abbrev pub one_id_of : Block → Places → Places
one_id_of model [] = model.name.at ∷ []
one_id_of model (first ∷ others) = others

-- the places of the fields that are optional and of the id
abbrev pub optional_ids : List Spelling → List ModelField → Places
optional_ids named fields = map (λ field. field.name.at) (filter (is_optional_id named) fields)

-- the places in a model that break the rule on its id
abbrev pub broken_ids : Block → Places
broken_ids model = one_id_of model (ids_of model) ++ optional_ids (named_id model) (fields model)

-- V12. A model has one id, whose fields are required. Broken at each further id, at the model's name, and
-- at each optional field of the id.
abbrev pub one_id : Tree → Places
one_id tree = flat_map broken_ids (models tree)

-- ---- keys

abbrev pub is_key : Attribute → Bool
is_key attribute = is_called (codes "id") attribute || is_called (codes "unique") attribute

abbrev pub joined : List Spelling → Spelling
joined names = join_with_byte 95 names

-- the name of a key: of one field that field's; of more the one that is given, or theirs joined
abbrev pub key_name : List Spelling → Option Spelling → Spelling
key_name (name ∷ []) given = name
key_name names given = unwrap_or given (joined names)

-- an id or a unique: its name, at the place of its attribute, and its fields
abbrev pub key_over : Attribute → List Spelling → Option Spelling → Key
key_over attribute names given = record { name = record { text = key_name names given; at = attribute.name.at }; fields = names }

abbrev pub keys_in : Entry → List Key
keys_in (entry.Setting name value) = []
keys_in (entry.Member name attributes docs) = []
keys_in (entry.Field name type mark attributes docs) = map (λ attribute. key_over attribute (name.text ∷ []) None) (filter is_key attributes)
keys_in (entry.Block attribute docs) = map (λ attribute. key_over attribute (given_names (codes "fields") true attribute) (given_text (codes "name") false attribute)) (filter is_key (attribute ∷ []))

-- the ids and uniques of a model, in text order
abbrev pub keys_of : Block → List Key
keys_of model = flat_map keys_in model.entries

abbrev pub is_within : List Spelling → List Spelling → Bool
is_within names others = list_all (λ name. is_among name others) names

abbrev pub are_same_set : List Spelling → List Spelling → Bool
are_same_set names others = is_within names others && is_within others names

abbrev pub is_long : Key → Bool
is_long key = nat_le 2 (length key.fields)

abbrev pub names_field : Block → Spelling → Bool
names_field model name = list_any (λ field. bytes_eq name field.name.text) (fields model)

abbrev pub key_place : Key → ℕ
key_place key = key.name.at

abbrev pub same_fields : Key → Key → Bool
same_fields one other = are_same_set one.fields other.fields

-- the places in a model that break the rule on its keys
abbrev pub broken_keys : Block → Places
broken_keys model =
    map key_place (repeats same_fields (keys_of model)) ++ map place (repeats same_name (map (λ key. key.name) (filter is_long (keys_of model))))
    ++ map key_place (filter (λ key. is_long key && names_field model key.name.text) (keys_of model))

-- V13. No two keys of a model have the same fields, and the names of longer keys differ from each other and
-- from those of the fields. Broken at the later attribute's name, and at that of a key which is named as a field.
abbrev pub keys_are_distinct : Tree → Places
keys_are_distinct tree = flat_map broken_keys (models tree)

-- the fields of a key of the model, in any order
abbrev pub is_key_of : Block → List Spelling → Bool
is_key_of model names = list_any (λ key. are_same_set names key.fields) (keys_of model)
