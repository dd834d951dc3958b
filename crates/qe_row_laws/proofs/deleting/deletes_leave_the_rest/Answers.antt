use Rattle.qe_row_laws.proofs.Leaving.{leaves_the_rest}
use Rattle.qe_row_laws.proofs.deleting.deletes_leave_the_rest.Goals as goal

pub returns : goal.returns
returns c = record { left = leaves_the_rest }
