-- The operations that only read.
use Rattle.std.specs.Prelude.{Bool, true, false}
use Rattle.qe_base.specs.declared.write.Op.{Op}
use Rattle.qe_base.specs.declared.write.Op.TheVariants as op

abbrev pub only_reads : Op → Bool
only_reads (op.FindUnique table at strict pick) = true
only_reads (op.FindFirst table look strict pick) = true
only_reads (op.FindMany table look pick) = true
only_reads (op.Count table look) = true
only_reads (op.Create table tree pick) = false
only_reads (op.CreateMany table trees pick) = false
only_reads (op.Update table at tree pick) = false
only_reads (op.UpdateMany table asked tree) = false
only_reads (op.Upsert table at create update pick) = false
only_reads (op.Delete table at pick) = false
only_reads (op.DeleteMany table asked) = false
