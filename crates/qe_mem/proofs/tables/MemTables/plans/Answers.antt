use Rattle.std.proofs.Common.{◌≤◌, length, ap, subst, arith}
use Rattle.qe_mem.proofs.Planning.{none_left}
use Rattle.qe_mem.proofs.tables.MemTables.plans.Goals as goal

pub loop-pending-preserved : goal.loop-pending-preserved
loop-pending-preserved c =
    let past : length c.self.inside.tables.items ≤ length c.loop-pending.plans = omega (arith, c.in_default.ensures.lookup.3, c.len.ensures, ap length c.deref.ensures.value) in
    none_left c.args.self.now (length c.loop-pending.plans) c.loop-pending.plans _ c.in-Some.pending c.loop-pending.pending-iterator.rest.items c.next.new.self.rest.items (subst (λ l. length l ≤ length c.loop-pending.plans) c.self.view_is past) c.in-Some.ensures.steps.0 c.loop-pending.invariant
