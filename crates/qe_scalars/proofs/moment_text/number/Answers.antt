use Rattle.std.proofs.Common.{rules, ◌<◌}
use Rattle.qe_scalars.proofs.Digits.{so_far, step, ended}
use Rattle.qe_scalars.proofs.moment_text.number.Goals as goal

pub overflow_mul-number : goal.overflow_mul-number
overflow_mul-number c =
    let few : c.loop-byte.number < 10000 = so_far c.args.digits.now c.loop-byte.byte-index c.loop-byte.number c.requires.digits c.requires.few c.loop-byte.invariant in
    search rules

pub overflow_add-number : goal.overflow_add-number
overflow_add-number c =
    let few : c.loop-byte.number < 10000 = so_far c.args.digits.now c.loop-byte.byte-index c.loop-byte.number c.requires.digits c.requires.few c.loop-byte.invariant in
    search rules

pub loop-byte-preserved : goal.loop-byte-preserved
loop-byte-preserved c = step c.args.digits.now c.loop-byte.byte-index c.loop-byte.number c.digit.result c.loop-byte-test.true c.loop-byte.invariant c.digit.ensures.value

pub returns-clause-bound : goal.returns-clause-bound
returns-clause-bound c = ended c.args.digits.now c.loop-byte.byte-index c.loop-byte.number c.requires.digits c.loop-byte-test.false c.loop-byte.invariant
