-- The rules in groups, in the order of their numbers.
use Rattle.std.specs.Prelude.{List, [], ◌∷◌, ◌++◌}
use Rattle.psl_rules.specs.Accepted.{Rule}
use Rattle.psl_rules.specs.Settings.{one_datasource, settings_are_given, has_a_model}
use Rattle.psl_rules.specs.Names.{type_names_are_distinct, field_names_are_distinct, types_are_known, lists_are_of_models}
use Rattle.psl_rules.specs.Attributes.{attributes_are_known, attributes_stand_once, arguments_are_right, attributes_stand_rightly}
use Rattle.psl_rules.specs.Keys.{one_id, keys_are_distinct}
use Rattle.psl_rules.specs.Defaults.{defaults_fit, counters_are_ids}
use Rattle.psl_rules.specs.Relations.{ends_are_paired, pairs_have_a_holder}
use Rattle.psl_rules.specs.Foreign.{references_are_columns, references_have_the_type, foreign_keys_are_whole, references_are_keys, one_to_one_is_unique, actions_are_known}
use Rattle.psl_rules.specs.Updates.{updates_form_no_cycle}
use Rattle.psl_rules.specs.Stored.{stored_names_are_distinct, limits_hold}

-- 1 to 3, on the blocks that there are
abbrev pub block_rules : List Rule
block_rules = one_datasource ∷ settings_are_given ∷ has_a_model ∷ []

-- 4 to 7, on names and types
abbrev pub type_rules : List Rule
type_rules = type_names_are_distinct ∷ field_names_are_distinct ∷ types_are_known ∷ lists_are_of_models ∷ []

-- 8 to 11, on attributes
abbrev pub attribute_rules : List Rule
attribute_rules = attributes_are_known ∷ attributes_stand_once ∷ arguments_are_right ∷ attributes_stand_rightly ∷ []

-- 12 to 15, on keys and defaults
abbrev pub key_rules : List Rule
key_rules = one_id ∷ keys_are_distinct ∷ defaults_fit ∷ counters_are_ids ∷ []

-- 16 to 20, on pairs of fields and their foreign keys
abbrev pub pair_rules : List Rule
pair_rules = ends_are_paired ∷ pairs_have_a_holder ∷ references_are_columns ∷ references_have_the_type ∷ foreign_keys_are_whole ∷ []

-- 21 to 24, on what foreign keys refer to and what happens to their rows
abbrev pub reference_rules : List Rule
reference_rules = references_are_keys ∷ one_to_one_is_unique ∷ actions_are_known ∷ updates_form_no_cycle ∷ []

-- 25 and 26, on what is stored
abbrev pub stored_rules : List Rule
stored_rules = stored_names_are_distinct ∷ limits_hold ∷ []

-- 16 to 26, on relations and on what is stored
abbrev pub relation_rules : List Rule
relation_rules = pair_rules ++ reference_rules ++ stored_rules
