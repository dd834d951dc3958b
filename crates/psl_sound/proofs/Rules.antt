-- Each of the rules that the proofs cite is one of the rules.
use Rattle.std.proofs.Common.{inl, inr, refl}
use Rattle.qe_text.specs.Lists.{In}
use Rattle.psl_rules.specs.Accepted.{rules}
use Rattle.psl_rules.specs.Attributes.{attributes_stand_rightly}
use Rattle.psl_rules.specs.Defaults.{defaults_fit}
use Rattle.psl_rules.specs.Foreign.{references_are_columns, references_have_the_type, foreign_keys_are_whole, references_are_keys, one_to_one_is_unique, actions_are_known}
use Rattle.psl_rules.specs.Keys.{one_id}
use Rattle.psl_rules.specs.Names.{type_names_are_distinct, field_names_are_distinct}
use Rattle.psl_rules.specs.Relations.{ends_are_paired}
use Rattle.psl_rules.specs.Stored.{stored_names_are_distinct, limits_hold}
use Rattle.psl_rules.specs.Updates.{updates_form_no_cycle}

pub type_names_are_distinct_is_in : In type_names_are_distinct rules
unfolding In
type_names_are_distinct_is_in = inr (inr (inr (inl refl)))

pub field_names_are_distinct_is_in : In field_names_are_distinct rules
unfolding In
field_names_are_distinct_is_in = inr (inr (inr (inr (inl refl))))

pub attributes_stand_rightly_is_in : In attributes_stand_rightly rules
unfolding In
attributes_stand_rightly_is_in = inr (inr (inr (inr (inr (inr (inr (inr (inr (inr (inl refl))))))))))

pub one_id_is_in : In one_id rules
unfolding In
one_id_is_in = inr (inr (inr (inr (inr (inr (inr (inr (inr (inr (inr (inl refl)))))))))))

pub defaults_fit_is_in : In defaults_fit rules
unfolding In
defaults_fit_is_in = inr (inr (inr (inr (inr (inr (inr (inr (inr (inr (inr (inr (inr (inl refl)))))))))))))

pub ends_are_paired_is_in : In ends_are_paired rules
unfolding In
ends_are_paired_is_in = inr (inr (inr (inr (inr (inr (inr (inr (inr (inr (inr (inr (inr (inr (inr (inl refl)))))))))))))))

pub references_are_columns_is_in : In references_are_columns rules
unfolding In
references_are_columns_is_in = inr (inr (inr (inr (inr (inr (inr (inr (inr (inr (inr (inr (inr (inr (inr (inr (inr (inl refl)))))))))))))))))

pub references_have_the_type_is_in : In references_have_the_type rules
unfolding In
references_have_the_type_is_in = inr (inr (inr (inr (inr (inr (inr (inr (inr (inr (inr (inr (inr (inr (inr (inr (inr (inr (inl refl))))))))))))))))))

pub foreign_keys_are_whole_is_in : In foreign_keys_are_whole rules
unfolding In
foreign_keys_are_whole_is_in = inr (inr (inr (inr (inr (inr (inr (inr (inr (inr (inr (inr (inr (inr (inr (inr (inr (inr (inr (inl refl)))))))))))))))))))

pub references_are_keys_is_in : In references_are_keys rules
unfolding In
references_are_keys_is_in = inr (inr (inr (inr (inr (inr (inr (inr (inr (inr (inr (inr (inr (inr (inr (inr (inr (inr (inr (inr (inl refl))))))))))))))))))))

pub one_to_one_is_unique_is_in : In one_to_one_is_unique rules
unfolding In
one_to_one_is_unique_is_in = inr (inr (inr (inr (inr (inr (inr (inr (inr (inr (inr (inr (inr (inr (inr (inr (inr (inr (inr (inr (inr (inl refl)))))))))))))))))))))

pub actions_are_known_is_in : In actions_are_known rules
unfolding In
actions_are_known_is_in = inr (inr (inr (inr (inr (inr (inr (inr (inr (inr (inr (inr (inr (inr (inr (inr (inr (inr (inr (inr (inr (inr (inl refl))))))))))))))))))))))

pub updates_form_no_cycle_is_in : In updates_form_no_cycle rules
unfolding In
updates_form_no_cycle_is_in = inr (inr (inr (inr (inr (inr (inr (inr (inr (inr (inr (inr (inr (inr (inr (inr (inr (inr (inr (inr (inr (inr (inr (inl refl)))))))))))))))))))))))

pub stored_names_are_distinct_is_in : In stored_names_are_distinct rules
unfolding In
stored_names_are_distinct_is_in = inr (inr (inr (inr (inr (inr (inr (inr (inr (inr (inr (inr (inr (inr (inr (inr (inr (inr (inr (inr (inr (inr (inr (inr (inl refl))))))))))))))))))))))))

pub limits_hold_is_in : In limits_hold rules
unfolding In
limits_hold_is_in = inr (inr (inr (inr (inr (inr (inr (inr (inr (inr (inr (inr (inr (inr (inr (inr (inr (inr (inr (inr (inr (inr (inr (inr (inr (inl refl)))))))))))))))))))))))))
