use Rattle.qe_row_laws.proofs.Fitting.{deletes_fit}
use Rattle.qe_row_laws.proofs.deleting.deletes_keep_tables_fitting.Goals as goal

pub returns : goal.returns
returns c = record { fit = deletes_fit }
