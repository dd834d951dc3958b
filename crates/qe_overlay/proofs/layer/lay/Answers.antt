use Rattle.std.proofs.Common.{◌∙◌, ap}
use Rattle.qe_schema.specs.Columns.{at_columns}
use Rattle.qe_overlay.proofs.Laying.{laid_next}
use Rattle.qe_overlay.proofs.layer.lay.Goals as goal

pub rows-preserved-in_ok-insert : goal.rows-preserved-in_ok-insert
rows-preserved-in_ok-insert c =
    laid_next c.args.table.now c.rows.rest c.pop.new.self c.args.rows c.in-Some.row c.in_ok-id.id c.rows.laid.entries c.insert.new.self.entries c.args.laid.now.entries
    c.in-Some.ensures (c.in_ok-id.ensures ∙ ap (λ columns. at_columns columns c.in-Some.row) c.id_columns.ensures) c.in_ok-insert.ensures.entries c.rows.invariant

pub rows-preserved : goal.rows-preserved
rows-preserved c =
    laid_next c.args.table.now c.rows.rest c.pop.new.self c.args.rows c.in-Some.row c.in_ok-id.id c.rows.laid.entries c.insert.new.self.entries c.args.laid.now.entries
    c.in-Some.ensures (c.in_ok-id.ensures ∙ ap (λ columns. at_columns columns c.in-Some.row) c.id_columns.ensures) c.in_ok-insert.ensures.entries c.rows.invariant
