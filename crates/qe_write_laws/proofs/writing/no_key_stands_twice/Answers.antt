use Rattle.qe_write_laws.proofs.Unique.{operations_repeat_no_key, batches_repeat_no_key}
use Rattle.qe_write_laws.proofs.writing.no_key_stands_twice.Goals as goal

pub returns : goal.returns
returns c = record { operation = operations_repeat_no_key; batch = batches_repeat_no_key }
