-- The names of models, enums, fields and members, and the types of fields.
use Rattle.std.specs.Prelude.{ℕ, List, [], ◌∷◌, ◌++◌, Bool, true, false, ◌||◌, not, map, filter, bytes_eq, codes}
use Rattle.std.specs.List.{list_any, flat_map}
use Rattle.qe_text.specs.Names.{reserved_names, filter_names}
use Rattle.psl_text.specs.declared.tree.Name.{Name}
use Rattle.psl_text.specs.declared.tree.Mark.{Mark}
use Rattle.psl_text.specs.declared.tree.Mark.TheVariants as mark
use Rattle.psl_text.specs.declared.tree.Word.TheVariants as word
use Rattle.psl_text.specs.declared.tree.Block.{Block}
use Rattle.psl_text.specs.declared.tree.Tree.{Tree}
pub use Rattle.psl_rules.specs.Parts.{same_name}
use Rattle.psl_rules.specs.Settings.{some_of}
use Rattle.psl_rules.specs.Parts.{Spelling, Places, ModelField, models, enums, same_word, fields, members, place, failing}
use Rattle.qe_text.specs.Lists.{repeats, is_among}

-- the names of models and enums, in text order
abbrev pub type_names : Tree → List Name
type_names tree = map (λ block. block.name) (filter (λ block. same_word block.word word.Model || same_word block.word word.Enum) tree.blocks)

-- V4. The names of models and enums differ, and none is the name of a type. Broken at the later name, and
-- at a type's name.
abbrev pub type_names_are_distinct : Tree → Places
type_names_are_distinct tree = failing (λ name. not (is_among name.text reserved_names)) place (type_names tree) ++ map place (repeats same_name (type_names tree))

abbrev pub field_names : Block → List Name
field_names model = map (λ field. field.name) (fields model)

abbrev pub member_names : Block → List Name
member_names enum = map (λ member. member.name) (members enum)

-- the names of a model's fields that are a filter's or repeat an earlier one
abbrev pub repeated_fields : Block → Places
repeated_fields model = failing (λ name. not (is_among name.text filter_names)) place (field_names model) ++ map place (repeats same_name (field_names model))

-- the names of an enum's members that repeat an earlier one, and the enum's own where there are none
abbrev pub repeated_members : Block → Places
repeated_members enum = some_of enum.name.at (members enum) ++ map place (repeats same_name (member_names enum))

-- V5. The fields of a model have different names, and none is a filter's. An enum has members, with
-- different names. Broken at the later name, at a filter's name, and at the name of an enum without members.
abbrev pub field_names_are_distinct : Tree → Places
field_names_are_distinct tree = flat_map repeated_fields (models tree) ++ flat_map repeated_members (enums tree)

-- ---- types

-- the types of single values
abbrev pub scalar_names : List Spelling
scalar_names = codes "String" ∷ codes "Boolean" ∷ codes "Int" ∷ codes "BigInt" ∷ codes "DateTime" ∷ codes "Bytes" ∷ []

abbrev pub names_model : Tree → Spelling → Bool
names_model tree name = list_any (λ model. bytes_eq name model.name.text) (models tree)

abbrev pub names_enum : Tree → Spelling → Bool
names_enum tree name = list_any (λ enum. bytes_eq name enum.name.text) (enums tree)

-- a type of values: a scalar, or an enum
abbrev pub is_value_type : Tree → Spelling → Bool
is_value_type tree type = is_among type scalar_names || names_enum tree type

-- a field with a value of its own
abbrev pub is_column : Tree → ModelField → Bool
is_column tree field = is_value_type tree field.type.text

-- a field that leads to another model, or to its own
abbrev pub is_relation : Tree → ModelField → Bool
is_relation tree field = names_model tree field.type.text

abbrev pub is_many : Mark → Bool
is_many mark.One = false
is_many mark.Optional = false
is_many mark.Many = true

abbrev pub is_optional : Mark → Bool
is_optional mark.One = false
is_optional mark.Optional = true
is_optional mark.Many = false

abbrev pub type_place : ModelField → ℕ
type_place field = field.type.at

-- the types of a model's fields that the tree does not know
abbrev pub unknown_types : Tree → Block → Places
unknown_types tree model = failing (λ field. is_column tree field || is_relation tree field) type_place (fields model)

-- V6. Each field's type is a scalar, an enum or a model. Broken at the type.
abbrev pub types_are_known : Tree → Places
types_are_known tree = flat_map (unknown_types tree) (models tree)

-- the types of a model's lists that are no models
abbrev pub other_lists : Tree → Block → Places
other_lists tree model = failing (λ field. not (is_many field.mark) || is_relation tree field) type_place (fields model)

-- V7. Lists are of models alone. Broken at the type.
abbrev pub lists_are_of_models : Tree → Places
lists_are_of_models tree = flat_map (other_lists tree) (models tree)
