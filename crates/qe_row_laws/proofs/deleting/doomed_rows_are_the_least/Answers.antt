use Rattle.qe_row_laws.proofs.Doomed.{computes_doomed, computes_the_least, doomed_are_unique}
use Rattle.qe_row_laws.proofs.deleting.doomed_rows_are_the_least.Goals as goal

pub returns : goal.returns
returns c = record { computed = computes_doomed; least = computes_the_least; unique = doomed_are_unique }
