use Rattle.qe_write_laws.proofs.Fitting.{operations_pass, batches_pass}
use Rattle.qe_write_laws.proofs.writing.writes_keep_any_test.Goals as goal

pub returns-clause-operation : goal.returns-clause-operation
returns-clause-operation c = operations_pass

pub returns-clause-batch : goal.returns-clause-batch
returns-clause-batch c = batches_pass
