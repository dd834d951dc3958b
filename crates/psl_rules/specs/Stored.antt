-- The names under which tables and columns are stored, and how many there may be.
use Rattle.std.specs.Prelude.{ℕ, List, [], ◌∷◌, ◌++◌, Bool, true, false, map, filter, drop, take, Option, Some, None, option_and_then, unwrap_or, if◌then◌else◌, codes}
use Rattle.std.specs.List.{flat_map}
use Rattle.std.specs.Ordering.{nat_cmp}
use Rattle.std.specs.Cmp.Lexicographic.{slice_cmp}
use Rattle.std.specs.declared.cmp.Ordering.{Ordering}
use Rattle.std.specs.declared.cmp.Ordering.TheVariants.{Less, Equal, Greater}
use Rattle.std.specs.Str.{str_to_ascii_lowercase}
use Rattle.qe_text.specs.Names.{is_stored_name}
use Rattle.psl_text.specs.declared.tree.Attribute.{Attribute}
use Rattle.psl_text.specs.declared.tree.Block.{Block}
use Rattle.psl_text.specs.declared.tree.Name.{Name}
use Rattle.psl_text.specs.declared.tree.Tree.{Tree}
use Rattle.psl_rules.specs.Parts.{Spelling, Places, ModelField, models, enums, fields, block_attributes, attribute_named, given_text, place, same_name, failing}
use Rattle.qe_text.specs.Lists.{repeats}
use Rattle.psl_rules.specs.Names.{is_column, field_names, member_names}
use Rattle.psl_rules.specs.Relations.{Pair, pairs, pair_place, is_linked, relation_name}

-- the name that `@map` or `@@map` gives, or else the own one
abbrev pub mapped : Spelling → List Attribute → Spelling
mapped own attributes = unwrap_or (option_and_then (given_text (codes "name") true) (attribute_named (codes "map") attributes)) own

-- a stored name, at the place of what is stored
abbrev pub stored : Spelling → ℕ → Name
stored name at = record { text = name; at = at }

abbrev pub stored_model : Block → Name
stored_model model = stored (mapped model.name.text (block_attributes model)) model.name.at

abbrev pub stored_field : ModelField → Name
stored_field field = stored (mapped field.name.text field.attributes) field.name.at

-- ---- link tables

abbrev pub comes_first : Ordering → Bool
comes_first Less = true
comes_first Equal = true
comes_first Greater = false

-- `_XToY` with the models' names in the order of their bytes
abbrev pub models_joined : Spelling → Spelling → Spelling
models_joined one other = if comes_first (slice_cmp nat_cmp one other) then codes "_" ++ one ++ codes "To" ++ other else codes "_" ++ other ++ codes "To" ++ one

-- `_` and the relation's name, or the names of the models that are linked
abbrev pub link_name : Option Spelling → Spelling → Spelling → Spelling
link_name None one other = models_joined one other
link_name (Some name) one other = codes "_" ++ name

abbrev pub stored_link : Pair → Name
stored_link pair = stored (link_name (relation_name pair.first) pair.first.model.name.text pair.second.model.name.text) (pair_place pair)

-- the pairs of lists, in the order of their first fields
abbrev pub linked : Tree → List Pair
linked tree = filter is_linked (pairs tree)

-- the tables: the models, then the link tables
abbrev pub stored_tables : Tree → List Name
stored_tables tree = map stored_model (models tree) ++ map stored_link (linked tree)

abbrev pub stored_columns : Tree → Block → List Name
stored_columns tree model = map stored_field (filter (is_column tree) (fields model))

-- ---- the rules

abbrev pub lowered : Name → Name
lowered name = stored (str_to_ascii_lowercase name.text) name.at

-- the names like earlier ones, but for the case of their letters
abbrev pub alike : List Name → List Name
alike names = repeats same_name (map lowered names)

-- names that can't be stored, and names like earlier ones
abbrev pub wrongly_stored : List Name → Places
wrongly_stored names = failing (λ name. is_stored_name name.text) place names ++ map place (alike names)

-- V25. The stored names of tables, and those of a table's columns, can be stored and differ. Broken at the
-- name of the later model or field, for a link table at that of its pair's first field.
abbrev pub stored_names_are_distinct : Tree → Places
stored_names_are_distinct tree = wrongly_stored (stored_tables tree) ++ flat_map (λ model. wrongly_stored (stored_columns tree model)) (models tree)

-- the place of the first name behind so many
abbrev pub beyond : ℕ → List Name → Places
beyond most names = map place (take 1 (drop most names))

-- V26. There are at most 256 tables, 128 fields in a model, and 1,000 members in an enum. Broken at the first
-- name beyond: of the tables in their order, of a model's fields, and of an enum's members.
abbrev pub limits_hold : Tree → Places
limits_hold tree =
    beyond 256 (stored_tables tree) ++ flat_map (λ model. beyond 128 (field_names model)) (models tree) ++ flat_map (λ enum. beyond 1000 (member_names enum)) (enums tree)
