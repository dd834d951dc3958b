use Rattle.std.proofs.Common.{◌≡◌, ◌+◌, ◌-◌, ◌<◌, ◌≤◌, ◌∙◌, length, take, ap, arith, slice_set, []}
use Rattle.qe_mem.specs.Turns.{left_all}
use Rattle.qe_mem.specs.Each.{each}
use Rattle.qe_mem.proofs.Eaching.{each_less, none_less}
use Rattle.qe_mem.proofs.orders.Orders.leave.Goals as goal

pub orders-preserved-then-left-len : goal.orders-preserved-then-left-len
orders-preserved-then-left-len c =
    let plans = c.args.plan.now in
    let items = c.orders.self-inside.listings.items in
    let at = c.orders.left - 1 in
    let back : c.orders.left - 1 + 1 ≡ c.orders.left = omega arith in
    let within : c.orders.left - 1 < length c.args.plan.now = omega arith in
    let inside : c.orders.left - 1 < length c.orders.self-inside.listings.items = omega (arith, c.orders.self-inside.listings.ok.0, c.len.ensures) in (
      omega arith,
      ap (λ t. each left_all (take at plans) (slice_set items at t)) (c.leave_all.ensures ∙ ap (λ turns. left_all turns c.index_mut.result.now) c.as_slice.ensures)
          ∙ each_less left_all plans at c.index-plan-left.result items _ c.index_mut.result.now within c.index-plan-left.is inside c.index_mut.ensures.value (ap (λ n. each left_all (take n plans) items) back ∙ c.orders.invariant.1),
    )

pub orders-preserved : goal.orders-preserved
orders-preserved c =
    let plans = c.args.plan.now in
    let items = c.orders.self-inside.listings.items in
    let at = c.orders.left - 1 in
    let back : c.orders.left - 1 + 1 ≡ c.orders.left = omega arith in
    let within : c.orders.left - 1 < length c.args.plan.now = omega arith in
    let past : length c.orders.self-inside.listings.items ≤ c.orders.left - 1 = omega (arith, c.orders.self-inside.listings.ok.0, c.len.ensures) in
    (omega arith, none_less left_all plans at [] items _ within past (ap (λ n. each left_all (take n plans) items) back ∙ c.orders.invariant.1))
