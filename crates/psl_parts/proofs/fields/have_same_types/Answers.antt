use Rattle.std.proofs.Common.{arith}
use Rattle.psl_parts.proofs.Zips.{types_ended}
use Rattle.psl_parts.proofs.fields.have_same_types.Goals as goal

pub returns : goal.returns
returns c = types_ended c.args.fields.now c.args.others.now c.loop-number.number _ (omega arith) c.loop-number.invariant
