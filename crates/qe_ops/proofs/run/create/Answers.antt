use Rattle.qe_base.specs.declared.write.Op.TheVariants as op
use Rattle.qe_writing.specs.Plain.{plain}
use Rattle.qe_ops.specs.Performs.{Carries}
use Rattle.qe_ops.proofs.Carrying.{handed_on, is_new, created_carries, refused_carries}
use Rattle.qe_ops.proofs.Fitting.{created_is_row}
use Rattle.qe_ops.proofs.run.create.Goals as goal

pub put_row-requires-clause-right : goal.put_row-requires-clause-right
put_row-requires-clause-right g c =
    let new = is_new c.args.schema.now c.args.table c.args.tree.now c.args.pick.now c.table_of-model.result.now c.as_slice.result.now c.as_slice-2.result.now c.in_ok-row.row c.in_ok-answer.answer c.table_of-model.ensures.table c.as_slice.ensures c.as_slice-2.ensures c.in_ok-row.ensures c.in_ok-answer.ensures in
    created_is_row c.args.schema.now c.args.table c.args.tree.now c.args.pick.now c.in_ok-row.row c.requires.fits c.requires.carried new.0

pub returns-in_err-put_row-clause-carries : goal.returns-in_err-put_row-clause-carries
returns-in_err-put_row-clause-carries g c = λ outside.
    let before = g.V.View.seen c.args.view.now in
    let after = g.V.View.seen c.put_row.new.view in
    let new = is_new c.args.schema.now c.args.table c.args.tree.now c.args.pick.now c.table_of-model.result.now c.as_slice.result.now c.as_slice-2.result.now c.in_ok-row.row c.in_ok-answer.answer c.table_of-model.ensures.table c.as_slice.ensures c.as_slice-2.ensures c.in_ok-row.ensures c.in_ok-answer.ensures in
    handed_on (Carries (plain c.args.schema.now (op.Create c.args.table c.args.tree.now c.args.pick.now) outside) before after) c.from_residual-in_err-put_row.result c.in_err-put_row.field-0.0 c.from_residual-in_err-put_row.ensures.1
    (refused_carries before after c.args.schema.now c.args.table c.args.tree.now c.args.pick.now outside c.in_ok-row.row c.in_ok-answer.answer c.in_err-put_row.field-0.0 c.requires.carried new c.in_err-put_row.ensures.puts)

pub returns-clause-carries : goal.returns-clause-carries
returns-clause-carries g c = λ outside.
    let before = g.V.View.seen c.args.view.now in
    let after = g.V.View.seen c.put_row.new.view in
    let new = is_new c.args.schema.now c.args.table c.args.tree.now c.args.pick.now c.table_of-model.result.now c.as_slice.result.now c.as_slice-2.result.now c.in_ok-row.row c.in_ok-answer.answer c.table_of-model.ensures.table c.as_slice.ensures c.as_slice-2.ensures c.in_ok-row.ensures c.in_ok-answer.ensures in
    created_carries before after c.args.schema.now c.args.table c.args.tree.now c.args.pick.now outside c.in_ok-row.row c.in_ok-answer.answer c.requires.carried new c.in_ok-put_row.ensures.puts
