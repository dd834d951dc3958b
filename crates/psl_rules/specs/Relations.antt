-- Relations: pairs of fields that lead to each other's model.
use Rattle.std.specs.Prelude.{ℕ, List, [], ◌∷◌, ◌++◌, Bool, true, false, ◌&&◌, ◌||◌, ◌==◌, not, length, nat_lt, map, filter, Option, Some, None, is_some, option_map, option_and_then, unwrap_or, bytes_eq, codes}
use Rattle.std.specs.List.{flat_map, enumerate_from}
use Rattle.psl_text.specs.declared.tree.Attribute.{Attribute}
use Rattle.psl_text.specs.declared.tree.Block.{Block}
use Rattle.psl_text.specs.declared.tree.Tree.{Tree}
use Rattle.psl_rules.specs.Parts.{Spelling, Places, ModelField, models, fields, attribute_named, given, given_text, given_names, failing}
use Rattle.psl_rules.specs.Names.{is_relation, is_many, is_optional}

-- one end of a relation: a field, the model that it stands in, and its number among all such fields
pub record End : Type 0 where
  pub number : ℕ
  pub model : Block
  pub field : ModelField

abbrev pub end_place : End → ℕ
end_place end = end.field.name.at

-- a field in its model
pub record Standing : Type 0 where
  pub model : Block
  pub field : ModelField

abbrev pub standing_in : Block → ModelField → Standing
standing_in model field = record { model = model; field = field }

-- the fields of a model that lead to models
abbrev pub leading_of : Tree → Block → List Standing
leading_of tree model = map (standing_in model) (filter (is_relation tree) (fields model))

abbrev pub end_at : ℕ × Standing → End
end_at numbered = record { number = numbered.0; model = numbered.1.model; field = numbered.1.field }

-- the fields that lead to models, in text order and numbered from 0
abbrev pub ends : Tree → List End
ends tree = map end_at (enumerate_from 0 (flat_map (leading_of tree) (models tree)))

-- ---- what `@relation` gives

abbrev pub relation_of : End → Option Attribute
relation_of end = attribute_named (codes "relation") end.field.attributes

abbrev pub relation_name : End → Option Spelling
relation_name end = option_and_then (given_text (codes "name") true) (relation_of end)

abbrev pub gives_part : Spelling → End → Bool
gives_part part end = is_some (option_and_then (given part false) (relation_of end))

abbrev pub part_names : Spelling → End → List Spelling
part_names part end = unwrap_or (option_map (given_names part false) (relation_of end)) []

abbrev pub has_fields : End → Bool
has_fields = gives_part (codes "fields")

abbrev pub has_references : End → Bool
has_references = gives_part (codes "references")

-- the fields that hold the foreign key
abbrev pub own_names : End → List Spelling
own_names = part_names (codes "fields")

-- the fields of the other model that it refers to
abbrev pub other_names : End → List Spelling
other_names = part_names (codes "references")

abbrev pub has_action : End → Bool
has_action end = gives_part (codes "onDelete") end || gives_part (codes "onUpdate") end

abbrev pub is_list : End → Bool
is_list end = is_many end.field.mark

-- ---- partners

abbrev pub same_relation : Option Spelling → Option Spelling → Bool
same_relation None None = true
same_relation None (Some other) = false
same_relation (Some name) None = false
same_relation (Some name) (Some other) = bytes_eq name other

abbrev pub leads_to : End → Block → Bool
leads_to end model = bytes_eq end.field.type.text model.name.text

-- the other end leads back, by the same relation, and is another field, whatever it is called
abbrev pub is_partner : End → End → Bool
is_partner end other = leads_to end other.model && leads_to other end.model && same_relation (relation_name end) (relation_name other) && not (end.number == other.number)

-- the partners of an end among these
abbrev pub partners_among : List End → End → List End
partners_among ends end = filter (is_partner end) ends

abbrev pub has_one_partner : List End → End → Bool
has_one_partner ends end = length (partners_among ends end) == 1

-- V16. Each field that leads to a model has exactly one partner. Broken at its name.
abbrev pub ends_are_paired : Tree → Places
ends_are_paired tree = failing (has_one_partner (ends tree)) end_place (ends tree)

-- ---- pairs

-- the two ends of a relation, the one that stands first in the text before the other
pub record Pair : Type 0 where
  pub first : End
  pub second : End

abbrev pub pair_of : End → End → Pair
pair_of end other = record { first = end; second = other }

abbrev pub stands_before : End → End → Bool
stands_before end other = nat_lt end.number other.number

abbrev pub pairs_with : End → List End → List Pair
pairs_with end others = map (pair_of end) (filter (stands_before end) others)

abbrev pub pairs_among : List End → List Pair
pairs_among ends = flat_map (λ end. pairs_with end (partners_among ends end)) ends

abbrev pub pairs : Tree → List Pair
pairs tree = pairs_among (ends tree)

abbrev pub pair_place : Pair → ℕ
pair_place pair = end_place pair.first

abbrev pub stand_together : End → Bool
stand_together end = (has_fields end && has_references end) || (not (has_fields end) && not (has_references end) && not (has_action end))

-- the one holds the foreign key, and the other is a list or optional
abbrev pub is_held_by : End → End → Bool
is_held_by holder target = has_fields holder && not (has_fields target) && not (is_list holder) && (is_list target || is_optional target.field.mark)

-- both are lists, linked by a table of their own
abbrev pub is_linked : Pair → Bool
is_linked pair = is_list pair.first && is_list pair.second && not (has_fields pair.first) && not (has_fields pair.second)

abbrev pub is_pair : Pair → Bool
is_pair pair =
    stand_together pair.first && stand_together pair.second && (is_held_by pair.first pair.second || is_held_by pair.second pair.first || is_linked pair)

-- V17. `fields` and `references` stand together, on one side that is no list, and the other side is a list or
-- optional; or on neither side, and both are lists. Actions stand beside them. Broken at the name of the
-- pair's first field.
abbrev pub pairs_have_a_holder : Tree → Places
pairs_have_a_holder tree = failing is_pair pair_place (pairs tree)
