-- Accepted trees, and the first rule that another one breaks.
use Rattle.std.specs.Prelude.{◌≡◌, ℕ, ◌+◌, List, [], ◌∷◌, Option, Some, None, option_map}
use Rattle.psl_text.specs.declared.tree.Tree.{Tree}
use Rattle.psl_rules.specs.Parts.{Places, first}
use Rattle.psl_rules.specs.Settings.{one_datasource, settings_are_given, has_a_model}
use Rattle.psl_rules.specs.Names.{type_names_are_distinct, field_names_are_distinct, types_are_known, lists_are_of_models}
use Rattle.psl_rules.specs.Attributes.{attributes_are_known, attributes_stand_once, arguments_are_right, attributes_stand_rightly}
use Rattle.psl_rules.specs.Keys.{one_id, keys_are_distinct}
use Rattle.psl_rules.specs.Defaults.{defaults_fit, counters_are_ids}
use Rattle.psl_rules.specs.Relations.{ends_are_paired, pairs_have_a_holder}
use Rattle.psl_rules.specs.Foreign.{references_are_columns, references_have_the_type, foreign_keys_are_whole, references_are_keys, one_to_one_is_unique, actions_are_known}
use Rattle.psl_rules.specs.Updates.{updates_form_no_cycle}
use Rattle.psl_rules.specs.Stored.{stored_names_are_distinct, limits_hold}

-- a rule, as the places of a tree that break it
abbrev pub Rule : Type 0
Rule = Tree → Places

-- the rules by their numbers, from 1
abbrev pub rules : List Rule
rules =
    one_datasource ∷ settings_are_given ∷ has_a_model ∷ type_names_are_distinct ∷ field_names_are_distinct ∷ types_are_known ∷ lists_are_of_models ∷ attributes_are_known ∷ attributes_stand_once
    ∷ arguments_are_right ∷ attributes_stand_rightly ∷ one_id ∷ keys_are_distinct ∷ defaults_fit ∷ counters_are_ids ∷ ends_are_paired ∷ pairs_have_a_holder ∷ references_are_columns
    ∷ references_have_the_type ∷ foreign_keys_are_whole ∷ references_are_keys ∷ one_to_one_is_unique ∷ actions_are_known ∷ updates_form_no_cycle ∷ stored_names_are_distinct ∷ limits_hold ∷ []

-- a rule that is broken, by its number, and the first place that breaks it
pub record Breach : Type 0 where
  pub rule : ℕ
  pub at : ℕ

abbrev pub breach_of : ℕ → Places → Option Breach
breach_of number places = option_map (λ at. record { rule = number; at = at }) (first places)

abbrev pub or_later : Option Breach → Option Breach → Option Breach
or_later None later = later
or_later (Some breach) later = Some breach

abbrev pub breach_from : ℕ → List Rule → Tree → Option Breach
breach_from number [] tree = None
breach_from number (rule ∷ rules) tree = or_later (breach_of number (rule tree)) (breach_from (number + 1) rules tree)

-- the broken rule of the least number, and the first place in the text that breaks it
abbrev pub first_breach : Tree → Option Breach
first_breach tree = breach_from 1 rules tree

-- an accepted tree breaks no rule
abbrev pub IsAccepted : Tree → Type 0
IsAccepted tree = first_breach tree ≡ None
