use Rattle.std.proofs.Common.{◌∙◌, ap}
use Rattle.qe_base.specs.Schemas.{Schema}
use Rattle.qe_schema.specs.Tables.{table_at}
use Rattle.qe_view.specs.After.{after}
use Rattle.qe_view.specs.declared.changes.Change.TheVariants as change
use Rattle.qe_view.specs.Right.{has_table}
use Rattle.qe_overlay.specs.Held.{held_in}
use Rattle.qe_overlay.proofs.Views.{made, put_changes, table_of_row, row_id_is}
use Rattle.qe_overlay.proofs.view.OverlayViewView.put.Goals as goal

pub shape_of-shape-requires : goal.shape_of-shape-requires
shape_of-shape-requires g c = ap (λ (s : Schema). has_table s c.args.table.0) c.get.ensures ∙ table_of_row c.args.self.now.schema c.args.table.0 c.args.row c.requires.right

pub returns-clause-changes : goal.returns-clause-changes
returns-clause-changes g c =
    made c.args.self.now.schema (g.C.Connector.seen c.args.self.now.below) (after c.args.self.now.schema (change.Put c.args.table c.args.row)) (held_in c.args.self.now.overlay) (held_in c.put.new.self)
    (put_changes c.args.self.now.schema (g.C.Connector.seen c.args.self.now.below) (held_in c.args.self.now.overlay) (held_in c.put.new.self) c.requires.stands c.args.table c.args.row c.in_ok-id.id (row_id_is c.args.self.now.schema c.args.table.0 c.shape_of-shape.result.now c.id_columns.result.now c.args.row c.in_ok-id.id (c.shape_of-shape.ensures ∙ ap (λ (s : Schema). table_at s c.args.table.0) c.get.ensures) c.id_columns.ensures c.in_ok-id.ensures) c.in_ok-put.ensures.ok c.requires.right c.requires.fits)

pub returns-clause-stands : goal.returns-clause-stands
returns-clause-stands g c = (put_changes c.args.self.now.schema (g.C.Connector.seen c.args.self.now.below) (held_in c.args.self.now.overlay) (held_in c.put.new.self) c.requires.stands c.args.table c.args.row c.in_ok-id.id (row_id_is c.args.self.now.schema c.args.table.0 c.shape_of-shape.result.now c.id_columns.result.now c.args.row c.in_ok-id.id (c.shape_of-shape.ensures ∙ ap (λ (s : Schema). table_at s c.args.table.0) c.get.ensures) c.id_columns.ensures c.in_ok-id.ensures) c.in_ok-put.ensures.ok c.requires.right c.requires.fits).1
