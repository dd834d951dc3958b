use Rattle.qe_reading.proofs.PageLaws.{related_part}
use Rattle.qe_reading.proofs.RelationLaws.{holder_and_target}
use Rattle.qe_reading.proofs.laws.relations.Goals as goal

pub returns-clause-part : goal.returns-clause-part
returns-clause-part c = related_part

pub returns-clause-reference : goal.returns-clause-reference
returns-clause-reference c = holder_and_target
