use Rattle.qe_reading.proofs.FilterLaws.{says_not, not_twice, every_of_none, none_is_not_some}
use Rattle.qe_reading.proofs.laws.filters.Goals as goal

pub returns-clause-not : goal.returns-clause-not
returns-clause-not c = says_not

pub returns-clause-not_twice : goal.returns-clause-not_twice
returns-clause-not_twice c = not_twice

pub returns-clause-every_of_none : goal.returns-clause-every_of_none
returns-clause-every_of_none c = every_of_none

pub returns-clause-none_is_not_some : goal.returns-clause-none_is_not_some
returns-clause-none_is_not_some c = none_is_not_some
