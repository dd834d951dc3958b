-- The foreign key of a relation, and what happens to its rows.
use Rattle.std.specs.Prelude.{ℕ, List, [], ◌∷◌, ◌++◌, Bool, true, false, ◌&&◌, ◌||◌, ◌==◌, not, length, map, filter, Option, Some, None, option_map, option_and_then, unwrap_or, bytes_eq, codes}
use Rattle.std.specs.List.{list_any, list_all, find, filter_map, zip}
use Rattle.psl_text.specs.declared.tree.Block.{Block}
use Rattle.psl_text.specs.declared.tree.Tree.{Tree}
use Rattle.psl_rules.specs.Parts.{Spelling, Places, ModelField, models, fields, given_name, failing}
use Rattle.qe_text.specs.Lists.{is_among}
use Rattle.psl_rules.specs.Names.{is_optional}
use Rattle.psl_rules.specs.Attributes.{name_columns}
use Rattle.psl_rules.specs.Keys.{is_key_of, id_names}
use Rattle.psl_rules.specs.Relations.{End, Pair, ends, end_place, relation_of, has_fields, own_names, other_names, leads_to, partners_among, pairs, pair_place, is_list, is_linked, gives_part}

-- the ends that hold a foreign key
abbrev pub holders : Tree → List End
holders tree = filter has_fields (ends tree)

-- something that holds of the model, among these, that an end leads to
abbrev pub of_target : List Block → End → (Block → Bool) → Bool
of_target models end holds = list_all holds (filter (leads_to end) models)

abbrev pub field_named : Block → Spelling → Option ModelField
field_named model name = find (λ field. bytes_eq field.name.text name) (fields model)

-- the fields of these names, in their order
abbrev pub fields_named : Block → List Spelling → List ModelField
fields_named model names = filter_map (field_named model) names

-- ---- which fields

abbrev pub refers_to_columns : Tree → List Block → End → Bool
refers_to_columns tree models end = of_target models end (λ model. name_columns tree model (other_names end))

abbrev pub names_columns : Tree → List Block → End → Bool
names_columns tree models end = name_columns tree end.model (own_names end) && refers_to_columns tree models end && length (own_names end) == length (other_names end)

-- V18. `fields` and `references` name columns, equally many, of the own and of the other model. Broken at the
-- name of the field with `fields`.
abbrev pub references_are_columns : Tree → Places
references_are_columns tree = failing (names_columns tree (models tree)) end_place (holders tree)

abbrev pub have_same_type : ModelField × ModelField → Bool
have_same_type two = bytes_eq two.0.type.text two.1.type.text

-- the fields of the foreign key have the types of those that they refer to in a model
abbrev pub has_types_of : End → Block → Bool
has_types_of end model = list_all have_same_type (zip (fields_named end.model (own_names end)) (fields_named model (other_names end)))

abbrev pub has_types_among : List Block → End → Bool
has_types_among models end = of_target models end (has_types_of end)

-- V19. A field and the one that it refers to have the same type.
abbrev pub references_have_the_type : Tree → Places
references_have_the_type tree = failing (has_types_among (models tree)) end_place (holders tree)

abbrev pub is_required : ModelField → Bool
is_required field = not (is_optional field.mark)

-- the fields of the foreign key
abbrev pub key_fields : End → List ModelField
key_fields end = fields_named end.model (own_names end)

abbrev pub is_all_or_none : End → Bool
is_all_or_none end = (is_required end.field && list_all is_required (key_fields end)) || (is_optional end.field.mark && list_all (λ field. is_optional field.mark) (key_fields end))

-- V20. A relation and all fields of its foreign key are optional, or all are required.
abbrev pub foreign_keys_are_whole : Tree → Places
foreign_keys_are_whole tree = failing is_all_or_none end_place (holders tree)

-- these are the fields of a key of the model, and required
abbrev pub are_required_key : Block → List Spelling → Bool
are_required_key model names = is_key_of model names && list_all is_required (fields_named model names)

abbrev pub refers_to_key : List Block → End → Bool
refers_to_key models end = of_target models end (λ model. are_required_key model (other_names end))

-- V21. What is referred to is a key of required fields.
abbrev pub references_are_keys : Tree → Places
references_are_keys tree = failing (refers_to_key (models tree)) end_place (holders tree)

-- ---- one to one, and lists on both sides

-- a relation of one row to one holds its foreign key once
abbrev pub is_once : List End → End → Bool
is_once ends end = list_any is_list (partners_among ends end) || is_key_of end.model (own_names end)

abbrev pub has_single_id : End → Bool
has_single_id end = length (id_names end.model) == 1

abbrev pub links_single_ids : Pair → Bool
links_single_ids pair = not (is_linked pair) || (has_single_id pair.first && has_single_id pair.second)

-- V22. The foreign key of a one-to-one relation is a key of its own model, and models that are linked by two
-- lists have ids of one field. Broken at the name of the field with `fields`, or of the pair's first field.
abbrev pub one_to_one_is_unique : Tree → Places
one_to_one_is_unique tree = failing (is_once (ends tree)) end_place (holders tree) ++ failing links_single_ids pair_place (pairs tree)

-- ---- actions

abbrev pub action_names : List Spelling
action_names = codes "Cascade" ∷ codes "Restrict" ∷ codes "SetNull" ∷ []

-- what `onDelete` or `onUpdate` gives
abbrev pub action : Spelling → End → Option Spelling
action part end = option_and_then (given_name part) (relation_of end)

abbrev pub may_be_action : End → Option Spelling → Bool
may_be_action end None = true
may_be_action end (Some name) = is_among name action_names && (not (bytes_eq name (codes "SetNull")) || is_optional end.field.mark)

abbrev pub acts_rightly : End → Bool
acts_rightly end = may_be_action end (action (codes "onDelete") end) && may_be_action end (action (codes "onUpdate") end)

-- V23. Actions are Cascade, Restrict or SetNull, and SetNull stands on optional relations. Broken at the
-- field's name.
abbrev pub actions_are_known : Tree → Places
actions_are_known tree = failing acts_rightly end_place (ends tree)
