use Rattle.std.proofs.Common.{◌≡◌, true, sym, subst}
use Rattle.std.specs.List.{list_all}
use Rattle.qe_view.specs.Attached.{CanApply, shapes_of}
use Rattle.qe_view.specs.Right.{is_right}
use Rattle.qe_plain.specs.Plain.{Plain, plain_seen}
use Rattle.qe_plain.proofs.Fitting.{held_after, right_for}
use Rattle.qe_plain.proofs.connector.PlainConnectorConnector.apply.Goals as goal

pub invariant_of-self-in-Continue-1 : goal.invariant_of-self-in-Continue-1
invariant_of-self-in-Continue-1 c =
    let changes = c.args.changes.now in
    let can : CanApply (plain_seen (record { attached = c.self.inside.attached; kept = c.self.inside.tables; counts = c.self.inside.counts })) changes = subst (λ (p : Plain). CanApply (plain_seen p) changes) (sym c.self.view_is) c.requires in
    let right : list_all (is_right (shapes_of c.in-Some.attached.layout)) changes ≡ true = right_for c.self.inside.attached c.in-Some.attached changes c.in-Some.is can in
    held_after c.self.inside.attached c.in-Some.attached changes c.self.inside.tables c.apply.new.self c.in-Some.is (rw (← c.attached.view_is) c.is_of_schema.ensures) right c.self.invariant c.apply.ensures.count (rw (← c.attached.view_is) c.in_ok-apply.ensures.ok)
