use Rattle.std.proofs.Common.{refl, []}
use Rattle.qe_reading.proofs.Layers.{truth_all}
use Rattle.qe_writing.specs.Samples.{blog}
use Rattle.qe_writing.proofs.examples.connect_or_create_twice.Goals as goal

pub returns-clause-made : goal.returns-clause-made
returns-clause-made c = rw (truth_all blog _ []) refl

pub returns-clause-linked : goal.returns-clause-linked
returns-clause-linked c = rw (truth_all blog _ []) refl
