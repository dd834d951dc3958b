use Rattle.std.proofs.Common.{◌≡◌, ◌∙◌, ap, sym, subst, map, refl}
use Rattle.qe_mem.specs.Kept.{AreExact, MakesRight, columns_of, orders_of}
use Rattle.qe_mem.specs.Plans.{CanEnterTable, CanSettleTable, entered_table, settled_table, raised_all, noted_all, plans_for}
use Rattle.qe_mem.specs.Each.{each, AllOfBoth}
use Rattle.qe_mem.proofs.Exactness.{done_all, all_can_enter, all_can_settle, all_stay_exact, all_columns, all_orders}
use Rattle.qe_mem.proofs.Noting.{nothing_pending, none_pending, all_pending}
use Rattle.qe_mem.proofs.Making.{makes_right, all_raised_exact, all_raised_same, raised_to_end}
use Rattle.qe_mem.proofs.tables.MemTables.apply.Goals as goal

pub enter-requires : goal.enter-requires
enter-requires c =
    let kept = c.args.self.now in
    let pendings = noted_all kept c.args.changes.now (nothing_pending kept) in
    subst (λ plans. AllOfBoth CanEnterTable plans kept) (sym (c.as_slice.ensures ∙ c.in_ok-plans.ensures)) (all_can_enter pendings kept c.requires (all_pending kept c.args.changes.now (nothing_pending kept) (none_pending kept)))

pub settle-requires : goal.settle-requires
settle-requires c =
    let kept = c.args.self.now in
    let pendings = noted_all kept c.args.changes.now (nothing_pending kept) in
    let entered = c.in_ok-enter.ensures.ok ∙ ap (λ plans. each entered_table plans kept) (c.as_slice.ensures ∙ c.in_ok-plans.ensures) in
    subst (AllOfBoth CanSettleTable c.in_ok-plans.plans) (sym entered)
    (subst (λ plans. AllOfBoth CanSettleTable plans (each entered_table (plans_for pendings kept) kept)) (sym c.in_ok-plans.ensures) (all_can_settle pendings kept c.requires (all_pending kept c.args.changes.now (nothing_pending kept) (none_pending kept))))

-- what was made at the end
ended : (c : goal.After-loop-change) → c.loop-change.self ≡ raised_all c.args.changes.now (done_all (noted_all c.args.self.now c.args.changes.now (nothing_pending c.args.self.now)) c.args.self.now)
ended c =
    let kept = c.args.self.now in
    let pendings = noted_all kept c.args.changes.now (nothing_pending kept) in
    let entered = c.in_ok-enter.ensures.ok ∙ ap (λ plans. each entered_table plans kept) (c.as_slice.ensures ∙ c.in_ok-plans.ensures) in
    raised_to_end c.args.changes.now c.loop-change.change-index c.settle.new.self c.loop-change.self c.loop-change-test.false c.loop-change.invariant
    ∙ ap (raised_all c.args.changes.now) (c.settle.ensures ∙ ap (λ plans. each settled_table plans c.enter.new.self) c.in_ok-plans.ensures ∙ ap (each settled_table (plans_for pendings kept)) entered)

pub returns-clause-ok : goal.returns-clause-ok
returns-clause-ok c = subst (MakesRight c.args.changes.now c.args.self.now) (sym (ended c)) (makes_right c.args.self.now c.args.changes.now c.requires)

pub returns-clause-exact : goal.returns-clause-exact
returns-clause-exact c =
    let kept = c.args.self.now in
    let pendings = noted_all kept c.args.changes.now (nothing_pending kept) in
    subst AreExact (sym (ended c)) (all_raised_exact c.args.changes.now (done_all pendings kept) (all_stay_exact pendings kept c.requires (all_pending kept c.args.changes.now (nothing_pending kept) (none_pending kept))))

pub returns-clause-columns : goal.returns-clause-columns
returns-clause-columns c =
    let kept = c.args.self.now in
    let pendings = noted_all kept c.args.changes.now (nothing_pending kept) in
    ap (map columns_of) (ended c) ∙ all_raised_same columns_of (λ table last. refl) c.args.changes.now (done_all pendings kept) ∙ all_columns pendings kept

pub returns-clause-orders : goal.returns-clause-orders
returns-clause-orders c =
    let kept = c.args.self.now in
    let pendings = noted_all kept c.args.changes.now (nothing_pending kept) in
    ap (map orders_of) (ended c) ∙ all_raised_same orders_of (λ table last. refl) c.args.changes.now (done_all pendings kept) ∙ all_orders pendings kept
