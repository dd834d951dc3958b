use Rattle.std.proofs.Common.{◌∙◌, arith, ap, sym, subst, slice_set}
use Rattle.std.proofs.lemmas.List.{set-get_or}
use Rattle.qe_mem.specs.Turns.{entered_all, left_all, CanEnter}
use Rattle.qe_mem.proofs.Turning.{turns_undone}
use Rattle.qe_mem.proofs.Eaching.{each_more, next_holds, next_within, all_back, both_within}
use Rattle.qe_mem.proofs.orders.Orders.enter.Goals as goal

pub index_mut-requires : goal.index_mut-requires
index_mut-requires c =
    omega (arith, c.self.inside.listings.ok.0, next_within CanEnter entered_all c.args.plan.now c.orders.done c.args.self.now c.self.inside.listings.items c.requires c.orders-test.true (c.self.view_is ∙ c.orders.invariant.1))

pub enter_all-requires : goal.enter_all-requires
enter_all-requires c =
    subst (λ turns. CanEnter turns c.index_mut.result.now) (sym c.as_slice.ensures)
    (next_holds CanEnter entered_all c.args.plan.now c.orders.done c.index-plan-done.result c.args.self.now c.self.inside.listings.items c.index_mut.result.now c.requires c.orders-test.true c.index-plan-done.is (c.self.view_is ∙ c.orders.invariant.1) c.index_mut.ensures.value)

pub returns-in-Err-clause-err : goal.returns-in-Err-clause-err
returns-in-Err-clause-err c =
    all_back CanEnter entered_all left_all turns_undone c.args.plan.now c.orders.done c.args.self.now (slice_set c.self.inside.listings.items c.orders.done c.enter_all.new.self) c.leave.new.self c.requires
    (ap (λ t. slice_set c.self.inside.listings.items c.orders.done t) (c.in-Err.ensures.err ∙ c.index_mut.ensures.value) ∙ set-get_or c.self.inside.listings.items c.orders.done c.index_mut.result.now ∙ c.self.view_is ∙ c.orders.invariant.1)
    c.leave.ensures

pub orders-preserved : goal.orders-preserved
orders-preserved c = (
  omega arith,
  ap (λ t. slice_set c.self.inside.listings.items c.orders.done t) (c.in_default.ensures.ok ∙ ap (λ turns. entered_all turns c.index_mut.result.now) c.as_slice.ensures)
      ∙ each_more entered_all c.args.plan.now c.orders.done c.index-plan-done.result c.args.self.now c.self.inside.listings.items c.index_mut.result.now c.orders-test.true c.index-plan-done.is (c.self.view_is ∙ c.orders.invariant.1) (both_within CanEnter c.args.plan.now c.args.self.now c.orders.done c.requires c.orders-test.true) c.index_mut.ensures.value,
)
