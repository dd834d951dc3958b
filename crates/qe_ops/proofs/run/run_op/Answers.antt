use Rattle.qe_writing.specs.Plain.{plain}
use Rattle.qe_ops.proofs.Carrying.{performs_ok, performs_err}
use Rattle.qe_ops.proofs.run.run_op.Goals as goal

pub returns-in-Ok-clause-performs : goal.returns-in-Ok-clause-performs
returns-in-Ok-clause-performs g c = λ outside.
    performs_ok (plain c.args.schema.now c.args.op.now outside) (g.V.View.seen c.args.view.now) (g.V.View.seen c.carry_out.new.view) c.in-Ok.answer (c.in-Ok.ensures.carries outside)

pub returns-in-Err-clause-performs : goal.returns-in-Err-clause-performs
returns-in-Err-clause-performs g c = λ outside.
    performs_err (plain c.args.schema.now c.args.op.now outside) (g.V.View.seen c.args.view.now) (g.V.View.seen c.carry_out.new.view) c.faults-before.result c.faults.result c.in-Err.refusal c.answered.result c.answered.ensures (c.in-Err.ensures.carries outside)
