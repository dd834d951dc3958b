use Rattle.std.proofs.Common.{sym, subst, rules}
use Rattle.qe_view.specs.Attached.{CanApply}
use Rattle.qe_mem.specs.Mem.{mem_seen}
use Rattle.qe_mem.proofs.Fitting.{held_after, told_after}
use Rattle.qe_mem.proofs.connector.MemConnectorConnector.apply.Goals as goal

pub returns-clause-applies : goal.returns-clause-applies
returns-clause-applies c =
    let inside = c.self.inside in
    let lead = subst (λ m. CanApply (mem_seen m) c.args.changes.now) (sym c.self.view_is) c.requires in
    rw (← c.self.view_is)
    (record {
      ok = told_after inside.attached inside.tables c.apply.new.self c.args.changes.now c.self.invariant lead c.in_ok-apply.ensures.ok;
      err = tt;
      cause = search rules;
      misfit = search rules;
      fits = (held_after inside.attached inside.tables c.apply.new.self c.args.changes.now c.self.invariant lead c.in_ok-apply.ensures.ok c.apply.ensures.exact c.apply.ensures.columns c.apply.ensures.orders).fits;
      others = search rules;
    })

pub invariant_of-self-2 : goal.invariant_of-self-2
invariant_of-self-2 c =
    let lead = subst (λ m. CanApply (mem_seen m) c.args.changes.now) (sym c.self.view_is) c.requires in
    held_after c.self.inside.attached c.self.inside.tables c.apply.new.self c.args.changes.now c.self.invariant lead c.in_ok-apply.ensures.ok c.apply.ensures.exact c.apply.ensures.columns c.apply.ensures.orders
