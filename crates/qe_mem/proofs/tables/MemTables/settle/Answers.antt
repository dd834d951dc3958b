use Rattle.std.proofs.Common.{◌∙◌, length, ap, arith, slice_set, sym, subst, get_or}
use Rattle.qe_mem.specs.Plans.{settled_table, CanSettleTable}
use Rattle.qe_mem.specs.Each.{each, AllOfBoth}
use Rattle.qe_mem.proofs.Eaching.{each_popped, last_within, last_holds, others_hold}
use Rattle.qe_mem.proofs.tables.MemTables.settle.Goals as goal

pub index_mut-requires : goal.index_mut-requires
index_mut-requires c =
    omega (arith, c.tables.self-inside.tables.ok.0, c.len-at.ensures, last_within CanSettleTable c.tables.plans c.pop.new.self c.in-Some.plan c.tables.self-inside.tables.items c.in-Some.ensures c.tables.invariant.0)

pub settle-requires : goal.settle-requires
settle-requires c =
    last_holds CanSettleTable c.tables.plans c.pop.new.self c.in-Some.plan c.tables.self-inside.tables.items c.index_mut.result.now c.in-Some.ensures c.tables.invariant.0
    (c.index_mut.ensures.value ∙ ap (λ n. get_or c.tables.self-inside.tables.items n c.index_mut.result.now) c.len-at.ensures)

pub tables-preserved : goal.tables-preserved
tables-preserved c =
    let items = c.tables.self-inside.tables.items in
    let found = c.index_mut.ensures.value ∙ ap (λ n. get_or items n c.index_mut.result.now) c.len-at.ensures in (
      subst (λ n. AllOfBoth CanSettleTable c.pop.new.self (slice_set items n c.settle.new.self)) (sym c.len-at.ensures) (others_hold CanSettleTable c.tables.plans c.pop.new.self c.in-Some.plan items c.settle.new.self c.in-Some.ensures c.tables.invariant.0),
      ap (λ n. each settled_table c.pop.new.self (slice_set items n c.settle.new.self)) c.len-at.ensures
          ∙ ap (λ t. each settled_table c.pop.new.self (slice_set items (length c.pop.new.self) t)) c.settle.ensures
          ∙ each_popped settled_table c.tables.plans c.pop.new.self c.in-Some.plan items _ c.index_mut.result.now c.in-Some.ensures (last_within CanSettleTable c.tables.plans c.pop.new.self c.in-Some.plan items c.in-Some.ensures c.tables.invariant.0) found c.tables.invariant.1,
    )
