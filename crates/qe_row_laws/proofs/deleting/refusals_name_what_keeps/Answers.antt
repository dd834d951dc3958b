use Rattle.qe_row_laws.proofs.Refusals.{accepted_keep_none, refused_keep_one}
use Rattle.qe_row_laws.proofs.deleting.refusals_name_what_keeps.Goals as goal

pub returns : goal.returns
returns c = record { accepted = accepted_keep_none; refused = refused_keep_one }
