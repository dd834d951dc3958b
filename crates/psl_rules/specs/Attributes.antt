-- Which attributes stand where, how often, with which arguments.
use Rattle.std.specs.Prelude.{ℕ, List, [], ◌∷◌, ◌++◌, Bool, true, ◌&&◌, ◌||◌, ◌==◌, length, nat_le, map, filter, if◌then◌else◌, bytes_eq, codes}
use Rattle.std.specs.List.{list_any, list_all, flat_map}
use Rattle.psl_text.specs.declared.tree.Attribute.{Attribute}
use Rattle.psl_text.specs.declared.tree.Block.{Block}
use Rattle.psl_text.specs.declared.tree.Tree.{Tree}
use Rattle.psl_rules.specs.Parts.{Spelling, Places, ModelField, models, enums, fields, members, block_attributes, is_called, given_names, failing}
use Rattle.qe_text.specs.Lists.{repeats, is_among}
use Rattle.psl_rules.specs.Names.{same_name, names_model, is_value_type, is_column}
use Rattle.psl_rules.specs.Arguments.{Parameter, field_parameters, model_parameters, arguments_fit}

abbrev pub attribute_place : Attribute → ℕ
attribute_place attribute = attribute.name.at

abbrev pub field_attribute_names : List Spelling
field_attribute_names = codes "id" ∷ codes "unique" ∷ codes "default" ∷ codes "relation" ∷ codes "map" ∷ codes "updatedAt" ∷ []

abbrev pub model_attribute_names : List Spelling
model_attribute_names = codes "id" ∷ codes "unique" ∷ codes "index" ∷ codes "map" ∷ []

-- attributes whose names are not among these
abbrev pub unknown : List Spelling → List Attribute → Places
unknown names attributes = failing (λ attribute. is_among attribute.name.text names) attribute_place attributes

-- unknown attributes of a model and of its fields
abbrev pub unknown_in_model : Block → Places
unknown_in_model model = flat_map (λ field. unknown field_attribute_names field.attributes) (fields model) ++ unknown model_attribute_names (block_attributes model)

-- attributes of an enum and of its members
abbrev pub unknown_in_enum : Block → Places
unknown_in_enum enum = flat_map (λ member. unknown [] member.attributes) (members enum) ++ unknown [] (block_attributes enum)

-- V8. Fields and models have attributes of known names alone, enums and members have none. Broken at the
-- attribute's name.
abbrev pub attributes_are_known : Tree → Places
attributes_are_known tree = flat_map unknown_in_model (models tree) ++ flat_map unknown_in_enum (enums tree)

abbrev pub same_attribute : Attribute → Attribute → Bool
same_attribute one other = same_name one.name other.name

-- what a model has once: an id over fields, and a stored name
abbrev pub stands_once : Attribute → Bool
stands_once attribute = is_called (codes "id") attribute || is_called (codes "map") attribute

-- attributes that one before them is like
abbrev pub repeated : List Attribute → Places
repeated attributes = map attribute_place (repeats same_attribute attributes)

abbrev pub repeated_in_model : Block → Places
repeated_in_model model = flat_map (λ field. repeated field.attributes) (fields model) ++ repeated (filter stands_once (block_attributes model))

-- V9. No field has an attribute twice, and no model has `@@id` or `@@map` twice. Broken at the later name.
abbrev pub attributes_stand_once : Tree → Places
attributes_stand_once tree = flat_map repeated_in_model (models tree)

-- attributes with other arguments than they take, by the parameters of each name
abbrev pub misgiven : (Spelling → List Parameter) → List Attribute → Places
misgiven parameters attributes = failing (λ attribute. arguments_fit (parameters attribute.name.text) attribute.arguments) attribute_place attributes

abbrev pub misgiven_in_model : Block → Places
misgiven_in_model model = flat_map (λ field. misgiven field_parameters field.attributes) (fields model) ++ misgiven model_parameters (block_attributes model)

-- V10. Each attribute has the arguments that it takes. Broken at its name.
abbrev pub arguments_are_right : Tree → Places
arguments_are_right tree = flat_map misgiven_in_model (models tree)

-- ---- where they stand

-- on a field of this type: `@relation` where it is a model, `@updatedAt` where it is that of moments, the
-- others where it has values
abbrev pub stands_rightly : Tree → Spelling → Attribute → Bool
stands_rightly tree type attribute =
    if is_called (codes "relation") attribute then names_model tree type
    else (if is_called (codes "updatedAt") attribute then bytes_eq type (codes "DateTime") else is_value_type tree type)

-- a column of the model, by its name
abbrev pub names_column : Tree → Block → Spelling → Bool
names_column tree model name = list_any (λ field. bytes_eq name field.name.text && is_column tree field) (fields model)

abbrev pub are_distinct_names : List Spelling → Bool
are_distinct_names names = length (repeats bytes_eq names) == 0

-- columns of the model, one at least, none twice
abbrev pub name_columns : Tree → Block → List Spelling → Bool
name_columns tree model names = nat_le 1 (length names) && are_distinct_names names && list_all (names_column tree model) names

-- an id, a unique or an index over columns
abbrev pub is_over_columns : Tree → Block → Attribute → Bool
is_over_columns tree model attribute = is_called (codes "map") attribute || name_columns tree model (given_names (codes "fields") true attribute)

abbrev pub wrong_on_fields : Tree → List ModelField → Places
wrong_on_fields tree fields = flat_map (λ field. failing (stands_rightly tree field.type.text) attribute_place field.attributes) fields

-- the places in a model of attributes that stand wrongly
abbrev pub wrong_attributes : Tree → Block → Places
wrong_attributes tree model = wrong_on_fields tree (fields model) ++ failing (is_over_columns tree model) attribute_place (block_attributes model)

-- V11. Attributes stand on fields that may have them, and those of models name columns. Broken at the
-- attribute's name.
abbrev pub attributes_stand_rightly : Tree → Places
attributes_stand_rightly tree = flat_map (wrong_attributes tree) (models tree)
