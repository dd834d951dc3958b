use Rattle.qe_reading.proofs.Literals.{counted_is, counts_are, dangling_is, first_is, linked_back_is, linked_is, many_is, optional_is, page_is}
use Rattle.qe_reading.proofs.worked.read_examples.Goals as goal

pub returns-clause-page : goal.returns-clause-page
returns-clause-page c = page_is

pub returns-clause-first : goal.returns-clause-first
returns-clause-first c = first_is

pub returns-clause-many : goal.returns-clause-many
returns-clause-many c = many_is

pub returns-clause-counts : goal.returns-clause-counts
returns-clause-counts c = counts_are

pub returns-clause-linked : goal.returns-clause-linked
returns-clause-linked c = linked_is

pub returns-clause-linked_back : goal.returns-clause-linked_back
returns-clause-linked_back c = linked_back_is

pub returns-clause-optional : goal.returns-clause-optional
returns-clause-optional c = optional_is

pub returns-clause-dangling : goal.returns-clause-dangling
returns-clause-dangling c = dangling_is

pub returns-clause-counted : goal.returns-clause-counted
returns-clause-counted c = counted_is
