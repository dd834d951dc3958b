use Rattle.std.proofs.Common.{◌∙◌, sym}
use Rattle.qe_mem.specs.Kept.{IsOrderOf}
use Rattle.qe_mem.proofs.Gathering.{if_same, found_wanted, found_by, order_is_index}
use Rattle.qe_mem.proofs.table.MemTable.wanted.Goals as goal

pub returns-then-goes_by : goal.returns-then-goes_by
returns-then-goes_by c = if_same c.find_all.result _ _ (found_wanted c.args.self.now.rows.columns c.args.columns.now c.args.keys.now c.args.self.now.rows.rows (sym c.goes_by.ensures ∙ c.if-goes_by.true)) c.find_all.ensures

pub find_all-requires-in-Some-clause-index : goal.find_all-requires-in-Some-clause-index
find_all-requires-in-Some-clause-index c = let order = found_by c.args.columns.now c.args.self.now.orders c.in-Some.order.now (sym c.in-Some.ensures) (IsOrderOf c.args.self.now.rows) c.requires.orders in order_is_index c.args.self.now.rows c.in-Some.order.now c.requires.in_order order.0

pub returns-in-Some : goal.returns-in-Some
returns-in-Some c =
    let order = found_by c.args.columns.now c.args.self.now.orders c.in-Some.order.now (sym c.in-Some.ensures) (IsOrderOf c.args.self.now.rows) c.requires.orders in
    if_same c.find_all-in-Some.result _ _ (found_wanted c.in-Some.order.now.columns c.args.columns.now c.args.keys.now c.args.self.now.rows.rows order.1) c.find_all-in-Some.ensures
