-- Writes keep that the tables fit a sound schema, and any further test of tables that each single change keeps.
use Rattle.std.specs.Prelude.{Bool}
use Rattle.qe_base.specs.Schemas.{Schema}
use Rattle.qe_schema.specs.Sound.{IsSound}
use Rattle.qe_schema.specs.Fits.{FitsSchema}
use Rattle.qe_schema.specs.Tables.{Tables}
use Rattle.qe_write_laws.specs.Keeps.{Keeps}
use Rattle.qe_write_laws.specs.WriteLaws.{CreatesKeep, UpdatesKeep, OperationsKeep, BatchesKeep, FitAndPass}
use Rattle.qe_write_laws.proofs.Operations.{new_keeps, old_keeps, plain_keeps, batch_keeps}
use Rattle.qe_write_laws.proofs.Together.{keeps_fitting}

pub creates_keep : (schema : Schema) → IsSound schema → CreatesKeep schema (FitsSchema schema)
creates_keep schema is = new_keeps schema (FitsSchema schema) is (keeps_fitting schema is)

pub updates_keep : (schema : Schema) → IsSound schema → UpdatesKeep schema (FitsSchema schema)
updates_keep schema is = old_keeps schema (FitsSchema schema) is (keeps_fitting schema is)

pub operations_keep : (schema : Schema) → IsSound schema → OperationsKeep schema (FitsSchema schema)
operations_keep schema is = plain_keeps schema (FitsSchema schema) is (keeps_fitting schema is)

pub batches_keep : (schema : Schema) → IsSound schema → BatchesKeep schema (FitsSchema schema)
batches_keep schema is = batch_keeps schema (FitsSchema schema) is (keeps_fitting schema is)

-- the same of any further test of tables
pub operations_pass : (schema : Schema) → IsSound schema → (test : Tables → Bool) → Keeps schema (FitAndPass schema test) → OperationsKeep schema (FitAndPass schema test)
operations_pass schema is test keeps = plain_keeps schema (FitAndPass schema test) is keeps

pub batches_pass : (schema : Schema) → IsSound schema → (test : Tables → Bool) → Keeps schema (FitAndPass schema test) → BatchesKeep schema (FitAndPass schema test)
batches_pass schema is test keeps = batch_keeps schema (FitAndPass schema test) is keeps
