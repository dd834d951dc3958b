use Rattle.std.proofs.Common.{refl, []}
use Rattle.qe_reading.proofs.Layers.{fits_all}
use Rattle.qe_writing.specs.Samples.{team}
use Rattle.qe_writing.proofs.fitting.steps_that_fit.Goals as goal

pub returns-clause-at_id : goal.returns-clause-at_id
returns-clause-at_id c = rw (fits_all team []) refl
