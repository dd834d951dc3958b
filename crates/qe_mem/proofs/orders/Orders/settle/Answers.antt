use Rattle.std.proofs.Common.{◌∙◌, length, ap, arith, slice_set, sym, subst, get_or}
use Rattle.qe_mem.specs.Turns.{settled_all, CanSettle}
use Rattle.qe_mem.specs.Each.{each, AllOfBoth}
use Rattle.qe_mem.proofs.Eaching.{each_popped, last_within, last_holds, others_hold}
use Rattle.qe_mem.proofs.orders.Orders.settle.Goals as goal

pub index_mut-requires : goal.index_mut-requires
index_mut-requires c =
    omega (arith, c.orders.self-inside.listings.ok.0, c.len-at.ensures, last_within CanSettle c.orders.plan c.pop.new.self c.in-Some.turns c.orders.self-inside.listings.items c.in-Some.ensures c.orders.invariant.0)

pub settle_all-requires : goal.settle_all-requires
settle_all-requires c =
    last_holds CanSettle c.orders.plan c.pop.new.self c.in-Some.turns c.orders.self-inside.listings.items c.index_mut.result.now c.in-Some.ensures c.orders.invariant.0
    (c.index_mut.ensures.value ∙ ap (λ n. get_or c.orders.self-inside.listings.items n c.index_mut.result.now) c.len-at.ensures)

pub orders-preserved : goal.orders-preserved
orders-preserved c =
    let items = c.orders.self-inside.listings.items in
    let found = c.index_mut.ensures.value ∙ ap (λ n. get_or items n c.index_mut.result.now) c.len-at.ensures in (
      subst (λ n. AllOfBoth CanSettle c.pop.new.self (slice_set items n c.settle_all.new.self)) (sym c.len-at.ensures) (others_hold CanSettle c.orders.plan c.pop.new.self c.in-Some.turns items c.settle_all.new.self c.in-Some.ensures c.orders.invariant.0),
      ap (λ n. each settled_all c.pop.new.self (slice_set items n c.settle_all.new.self)) c.len-at.ensures
          ∙ ap (λ t. each settled_all c.pop.new.self (slice_set items (length c.pop.new.self) t)) c.settle_all.ensures
          ∙ each_popped settled_all c.orders.plan c.pop.new.self c.in-Some.turns items _ c.index_mut.result.now c.in-Some.ensures (last_within CanSettle c.orders.plan c.pop.new.self c.in-Some.turns items c.in-Some.ensures c.orders.invariant.0) found c.orders.invariant.1,
    )
