use Rattle.qe_reading.proofs.FitLiterals.{counted_is, counted_profile, no_posts, page_is, some_of_profile, test_is, with_is}
use Rattle.qe_reading.proofs.worked.fit_examples.Goals as goal

pub returns-clause-page : goal.returns-clause-page
returns-clause-page c = page_is

pub returns-clause-linked : goal.returns-clause-linked
returns-clause-linked c = with_is 4 2

pub returns-clause-counted : goal.returns-clause-counted
returns-clause-counted c = counted_is

pub returns-clause-null_name : goal.returns-clause-null_name
returns-clause-null_name c = test_is 1 _ 0

pub returns-clause-null_title : goal.returns-clause-null_title
returns-clause-null_title c = test_is 1 _ 2

pub returns-clause-equals_null : goal.returns-clause-equals_null
returns-clause-equals_null c = test_is 1 _ 0

pub returns-clause-searched_number : goal.returns-clause-searched_number
returns-clause-searched_number c = test_is 0 _ 0

pub returns-clause-too_great : goal.returns-clause-too_great
returns-clause-too_great c = test_is 0 _ 0

pub returns-clause-not_many : goal.returns-clause-not_many
returns-clause-not_many c = some_of_profile

pub returns-clause-not_one : goal.returns-clause-not_one
returns-clause-not_one c = no_posts

pub returns-clause-no_such_field : goal.returns-clause-no_such_field
returns-clause-no_such_field c = with_is 5 2

pub returns-clause-column : goal.returns-clause-column
returns-clause-column c = with_is 3 2

pub returns-clause-counted_one : goal.returns-clause-counted_one
returns-clause-counted_one c = counted_profile
