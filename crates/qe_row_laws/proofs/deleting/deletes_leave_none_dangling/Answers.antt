use Rattle.qe_row_laws.proofs.Dangling.{leave_none_dangling}
use Rattle.qe_row_laws.proofs.Refusals.{parents_stay}
use Rattle.qe_row_laws.proofs.deleting.deletes_leave_none_dangling.Goals as goal

pub returns : goal.returns
returns c = record { found = leave_none_dangling; stay = parents_stay }
