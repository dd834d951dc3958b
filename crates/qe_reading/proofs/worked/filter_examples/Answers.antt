use Rattle.qe_reading.proofs.Literals.{any_of_nothing_is, author_not_y_is, every_b_is, has_x_is, neither_is, no_profile_is, not_x_is}
use Rattle.qe_reading.proofs.worked.filter_examples.Goals as goal

pub returns-clause-not_x : goal.returns-clause-not_x
returns-clause-not_x c = not_x_is

pub returns-clause-neither : goal.returns-clause-neither
returns-clause-neither c = neither_is

pub returns-clause-has_x : goal.returns-clause-has_x
returns-clause-has_x c = has_x_is

pub returns-clause-no_profile : goal.returns-clause-no_profile
returns-clause-no_profile c = no_profile_is

pub returns-clause-every_b : goal.returns-clause-every_b
returns-clause-every_b c = every_b_is

pub returns-clause-author_not_y : goal.returns-clause-author_not_y
returns-clause-author_not_y c = author_not_y_is

pub returns-clause-any_of_nothing : goal.returns-clause-any_of_nothing
returns-clause-any_of_nothing c = any_of_nothing_is
