use Rattle.qe_request.proofs.Objects.{counted}
use Rattle.qe_request.proofs.members.counts.Goals as goal

pub returns-in-Some : goal.returns-in-Some
returns-in-Some c = counted _ _ _ _ c.in-Some.ensures c.len.ensures.len
