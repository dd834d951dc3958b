use Rattle.std.proofs.Common.{◌∙◌, sym, ap}
use Rattle.qe_schema.specs.Columns.{at_columns}
use Rattle.qe_overlay.proofs.Laying.{kept_next, left_next}
use Rattle.qe_overlay.proofs.layer.Layer.lay_untouched.Goals as goal

pub rows-preserved-in_ok-insert : goal.rows-preserved-in_ok-insert
rows-preserved-in_ok-insert c =
    kept_next c.args.table.now c.args.self.now.entries c.rows.rest c.pop.new.self c.args.rows c.in-Some.row c.in_ok-id.id c.rows.laid.entries c.insert.new.self.entries c.args.laid.now.entries
    c.in-Some.ensures (c.in_ok-id.ensures ∙ ap (λ columns. at_columns columns c.in-Some.row) c.id_columns.ensures) c.in_ok-insert.ensures.entries
    (rw (← c.self.view_is) (sym c.contains_key.ensures ∙ c.if-not-contains_key.true)) c.rows.invariant

pub rows-preserved-in_ok-insert-2 : goal.rows-preserved-in_ok-insert-2
rows-preserved-in_ok-insert-2 c =
    kept_next c.args.table.now c.args.self.now.entries c.rows.rest c.pop.new.self c.args.rows c.in-Some.row c.in_ok-id.id c.rows.laid.entries c.insert.new.self.entries c.args.laid.now.entries
    c.in-Some.ensures (c.in_ok-id.ensures ∙ ap (λ columns. at_columns columns c.in-Some.row) c.id_columns.ensures) c.in_ok-insert.ensures.entries
    (rw (← c.self.view_is) (sym c.contains_key.ensures ∙ c.if-not-contains_key.true)) c.rows.invariant

pub rows-preserved : goal.rows-preserved
rows-preserved c =
    left_next c.args.table.now c.args.self.now.entries c.rows.rest c.pop.new.self c.args.rows c.in-Some.row c.in_ok-id.id c.rows.laid.entries c.args.laid.now.entries
    c.in-Some.ensures (c.in_ok-id.ensures ∙ ap (λ columns. at_columns columns c.in-Some.row) c.id_columns.ensures)
    (rw (← c.self.view_is) (sym c.contains_key.ensures ∙ c.if-not-contains_key.false)) c.rows.invariant
