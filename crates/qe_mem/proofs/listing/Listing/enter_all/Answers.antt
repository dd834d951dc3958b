use Rattle.std.proofs.Common.{◌∙◌, arith}
use Rattle.qe_mem.proofs.Turning.{enter_under, enter_more, all_undone}
use Rattle.qe_mem.proofs.listing.Listing.enter_all.Goals as goal

pub enter-requires : goal.enter-requires
enter-requires c = enter_under c.args.turns.now c.turns.done c.index-turns-done.result c.args.self.now c.turns.self c.requires c.turns-test.true c.index-turns-done.is c.turns.invariant.1

pub returns-in-Err-clause-err : goal.returns-in-Err-clause-err
returns-in-Err-clause-err c = all_undone c.args.turns.now c.turns.done c.args.self.now c.enter.new.self c.leave_all.new.self c.requires (c.in-Err.ensures.err ∙ c.turns.invariant.1) c.leave_all.ensures

pub turns-preserved : goal.turns-preserved
turns-preserved c = (
  omega arith,
  enter_more c.args.turns.now c.turns.done c.index-turns-done.result c.args.self.now c.turns.self c.enter.new.self c.turns-test.true c.index-turns-done.is c.turns.invariant.1 c.in_default.ensures.ok,
)
