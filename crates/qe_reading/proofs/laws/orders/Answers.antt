use Rattle.qe_reading.proofs.OrderLaws.{ordered_only}
use Rattle.qe_reading.proofs.laws.orders.Goals as goal

pub returns-clause-only : goal.returns-clause-only
returns-clause-only c = ordered_only
