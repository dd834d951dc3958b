use Rattle.std.proofs.Common.{refl, []}
use Rattle.qe_reading.proofs.Layers.{fits_all}
use Rattle.qe_writing.specs.Samples.{team}
use Rattle.qe_writing.proofs.FitLiterals.{whole_fits}
use Rattle.qe_writing.proofs.fitting.new_rows_that_fit.Goals as goal

pub returns-clause-whole : goal.returns-clause-whole
returns-clause-whole c = whole_fits

pub returns-clause-by_step : goal.returns-clause-by_step
returns-clause-by_step c = rw (fits_all team []) refl
