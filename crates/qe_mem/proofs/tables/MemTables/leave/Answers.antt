use Rattle.std.proofs.Common.{◌≡◌, ◌+◌, ◌-◌, ◌<◌, ◌≤◌, ◌∙◌, length, ap, arith, take, slice_set, []}
use Rattle.qe_mem.specs.Plans.{left_table}
use Rattle.qe_mem.specs.Each.{each}
use Rattle.qe_mem.specs.declared.table.Plan.{Plan}
use Rattle.qe_mem.proofs.Eaching.{each_less, none_less}
use Rattle.qe_mem.proofs.tables.MemTables.leave.Goals as goal

pub tables-preserved-then-left-len : goal.tables-preserved-then-left-len
tables-preserved-then-left-len c =
    let plans = c.args.plans.now in
    let items = c.tables.self-inside.tables.items in
    let at = c.tables.left - 1 in
    let back : c.tables.left - 1 + 1 ≡ c.tables.left = omega arith in
    let within : c.tables.left - 1 < length c.args.plans.now = omega arith in
    let inside : c.tables.left - 1 < length c.tables.self-inside.tables.items = omega (arith, c.tables.self-inside.tables.ok.0, c.len.ensures) in (
      omega arith,
      ap (λ t. each left_table (take at plans) (slice_set items at t)) c.leave.ensures
          ∙ each_less left_table plans at c.index-plans-left.result items _ c.index_mut.result.now within c.index-plans-left.is inside c.index_mut.ensures.value (ap (λ n. each left_table (take n plans) items) back ∙ c.tables.invariant.1),
    )

pub tables-preserved : goal.tables-preserved
tables-preserved c =
    let plans = c.args.plans.now in
    let items = c.tables.self-inside.tables.items in
    let none : Plan = record { rows = []; orders = [] } in
    let at = c.tables.left - 1 in
    let back : c.tables.left - 1 + 1 ≡ c.tables.left = omega arith in
    let within : c.tables.left - 1 < length c.args.plans.now = omega arith in
    let past : length c.tables.self-inside.tables.items ≤ c.tables.left - 1 = omega (arith, c.tables.self-inside.tables.ok.0, c.len.ensures) in
    (omega arith, none_less left_table plans at none items _ within past (ap (λ n. each left_table (take n plans) items) back ∙ c.tables.invariant.1))
