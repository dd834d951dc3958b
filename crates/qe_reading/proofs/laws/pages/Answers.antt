use Rattle.qe_reading.proofs.OrderLaws.{whole_is}
use Rattle.qe_reading.proofs.PageLaws.{page_length, page_distinct}
use Rattle.qe_reading.proofs.laws.pages.Goals as goal

pub returns-clause-most : goal.returns-clause-most
returns-clause-most c = page_length

pub returns-clause-distinct : goal.returns-clause-distinct
returns-clause-distinct c = page_distinct

pub returns-clause-whole : goal.returns-clause-whole
returns-clause-whole c = whole_is
