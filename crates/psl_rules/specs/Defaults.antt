-- What a field has by default.
use Rattle.std.specs.Prelude.{ℕ, List, [], ◌∷◌, ◌++◌, Bool, true, false, ◌&&◌, ◌||◌, not, map, filter, if◌then◌else◌, Option, Some, None, is_some, unwrap_or, bytes_eq, codes}
use Rattle.std.specs.List.{list_any, list_all, flat_map}
use Rattle.psl_text.specs.declared.tree.Term.{Term, out-Term}
use Rattle.psl_text.specs.declared.tree.Term.TheOpen.{Term-F}
use Rattle.psl_text.specs.declared.tree.Term.TheOpen as term
use Rattle.psl_text.specs.declared.tree.Argument.{Argument}
use Rattle.psl_text.specs.declared.tree.Attribute.{Attribute}
use Rattle.psl_text.specs.declared.tree.Block.{Block}
use Rattle.psl_text.specs.declared.tree.Tree.{Tree}
use Rattle.qe_scalars.specs.Numbers.{is_small, is_big, number_within}
use Rattle.qe_scalars.specs.Moments.{moment_of}
use Rattle.qe_scalars.specs.Bytes.{bytes_of}
use Rattle.psl_rules.specs.Parts.{Spelling, Places, ModelField, Member, models, enums, fields, members, is_called, attribute_named, given, text_in, name_in, calls, failing}
use Rattle.qe_text.specs.Lists.{is_among}
use Rattle.psl_rules.specs.Names.{same_name}
use Rattle.psl_rules.specs.Attributes.{attribute_place}
use Rattle.psl_rules.specs.Keys.{id_names, are_same_set}

-- what `@default` gives
abbrev pub default_in : Attribute → Option Term
default_in attribute = given [] true attribute

abbrev pub is_default : Attribute → Bool
is_default = is_called (codes "default")

abbrev pub number_by : Term-F Term Argument → Option Spelling
number_by (term.Text text at) = None
number_by (term.Number text at) = Some text
number_by (term.Name name) = None
number_by (term.Call name arguments) = None
number_by (term.List items at) = None

-- a number, as it is written
abbrev pub number_in : Term → Option Spelling
number_in value = number_by (out-Term value)

abbrev pub passes : {A : Type 0} → (A → Bool) → Option A → Bool
passes holds None = false
passes holds (Some value) = holds value

-- the name of a member of the enum that is called so
abbrev pub is_member_of : Tree → Spelling → Spelling → Bool
is_member_of tree enum name = list_any (λ block. bytes_eq block.name.text enum && list_any (λ member. bytes_eq member.name.text name) (members block)) (enums tree)

-- a default that a field of this type may have
abbrev pub fits_type : Tree → Spelling → Term → Bool
fits_type tree type value =
    if bytes_eq type (codes "String") then is_some (text_in value) || calls (codes "uuid") value
    else (if bytes_eq type (codes "Boolean") then passes (λ name. is_among name (codes "true" ∷ codes "false" ∷ [])) (name_in value)
    else (if bytes_eq type (codes "Int") then passes (λ text. is_some (number_within is_small text)) (number_in value) || calls (codes "autoincrement") value
    else (if bytes_eq type (codes "BigInt") then passes (λ text. is_some (number_within is_big text)) (number_in value) || calls (codes "autoincrement") value
    else (if bytes_eq type (codes "DateTime") then passes (λ text. is_some (moment_of text)) (text_in value) || calls (codes "now") value
    else (if bytes_eq type (codes "Bytes") then passes (λ text. is_some (bytes_of text)) (text_in value)
    else passes (is_member_of tree type) (name_in value))))))

abbrev pub default_fits : Tree → ModelField → Attribute → Bool
default_fits tree field attribute = not (is_default attribute) || passes (fits_type tree field.type.text) (default_in attribute)

-- V14. A default is one of its field's type. Broken at the attribute's name.
abbrev pub defaults_fit : Tree → Places
defaults_fit tree = flat_map (λ model. flat_map (λ field. failing (default_fits tree field) attribute_place field.attributes) (fields model)) (models tree)

-- `autoincrement()` by default
abbrev pub counts : Attribute → Bool
counts attribute = is_default attribute && passes (calls (codes "autoincrement")) (default_in attribute)

-- the field of this name is the whole id, where the id has these fields
abbrev pub is_alone_id : List Spelling → Spelling → Bool
is_alone_id ids name = are_same_set (name ∷ []) ids

abbrev pub counts_rightly : List Spelling → Spelling → Attribute → Bool
counts_rightly ids name attribute = not (counts attribute) || is_alone_id ids name

abbrev pub wrong_counters : List Spelling → List ModelField → Places
wrong_counters ids fields = flat_map (λ field. failing (counts_rightly ids field.name.text) attribute_place field.attributes) fields

-- the places in a model of counters that are not the whole id
abbrev pub counters_of : Block → Places
counters_of model = wrong_counters (id_names model) (fields model)

-- V15. `autoincrement()` stands on a field that alone is the id. Broken at the attribute's name.
abbrev pub counters_are_ids : Tree → Places
counters_are_ids tree = flat_map counters_of (models tree)
