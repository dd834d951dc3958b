use Rattle.std.proofs.Common.{◌∙◌, ap}
use Rattle.qe_mem.specs.Turns.{left_all, entered_all}
use Rattle.qe_mem.proofs.Turning.{turns_undone}
use Rattle.qe_mem.proofs.table.MemTable.enter.Goals as goal

pub returns-in-Err-clause-err : goal.returns-in-Err-clause-err
returns-in-Err-clause-err c =
    let table = c.args.self.now in
    let rows = c.leave_all.ensures ∙ ap (λ turns. left_all turns c.enter_all.new.self) c.as_slice-in-Err.ensures ∙ ap (left_all c.args.plan.now.rows) (c.in_ok-enter_all.ensures.ok ∙ ap (λ turns. entered_all turns table.rows) c.as_slice.ensures) ∙ turns_undone c.args.plan.now.rows table.rows c.requires.rows in
    λ i. record { link = table.link; rows = rows i; orders = c.in-Err.ensures.err i; last = table.last }
