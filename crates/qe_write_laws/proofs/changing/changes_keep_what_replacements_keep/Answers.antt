use Rattle.qe_write_laws.proofs.StillFit.{changes_keep_alike}
use Rattle.qe_write_laws.proofs.changing.changes_keep_what_replacements_keep.Goals as goal

pub returns : goal.returns
returns c = record { tests = changes_keep_alike }
