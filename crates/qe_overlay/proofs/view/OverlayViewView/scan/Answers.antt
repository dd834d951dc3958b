use Rattle.std.proofs.Common.{◌≡◌, ◌∙◌, ap, subst, true}
use Rattle.std.specs.List.{list_all}
use Rattle.qe_base.specs.declared.schema.Table.{Table}
use Rattle.qe_base.specs.Schemas.{Schema}
use Rattle.qe_schema.specs.Fits.{fit_columns}
use Rattle.qe_schema.specs.Tables.{table_at}
use Rattle.qe_schema.specs.Tests.{passes}
use Rattle.qe_view.specs.Right.{has_table, can_scan}
use Rattle.qe_view.specs.Layouts.{layout_of}
use Rattle.qe_overlay.specs.Fits.{LiesOver}
use Rattle.qe_overlay.specs.Held.{held_in}
use Rattle.qe_overlay.proofs.Views.{scan_gives, read_fits, standing, of_layout, has_layout, table_of_scan}
use Rattle.qe_overlay.proofs.view.OverlayViewView.scan.Goals as goal

pub scan-requires : goal.scan-requires
scan-requires g c = has_layout (g.C.Connector.seen c.args.self.now.below) (layout_of c.args.self.now.schema) (λ (shapes : Schema). can_scan shapes c.args.table.0 c.args.tests.now ≡ true) c.requires.stands.attached c.requires.can

pub shape_of-shape-requires : goal.shape_of-shape-requires
shape_of-shape-requires g c = ap (λ (s : Schema). has_table s c.args.table.0) c.get.ensures ∙ table_of_scan c.args.self.now.schema c.args.table.0 c.args.tests.now c.requires.can

pub returns-clause-rows : goal.returns-clause-rows
returns-clause-rows g c =
    scan_gives c.args.self.now.schema (g.C.Connector.seen c.args.self.now.below).told (held_in c.args.self.now.overlay) c.args.table.0 c.args.tests.now c.in_ok-found.found.rows c.in_ok-rows.rows.rows (standing c.args.self.now.schema (held_in c.args.self.now.overlay) (g.C.Connector.seen c.args.self.now.below) c.requires.stands)
    (subst (λ (t : Table). LiesOver t ((held_in c.args.self.now.overlay).layers c.args.table.0).entries (passes c.args.tests.now) c.in_ok-found.found.rows c.in_ok-rows.rows.rows) (c.shape_of-shape.ensures ∙ ap (λ (s : Schema). table_at s c.args.table.0) c.get.ensures) c.in_ok-rows.ensures)
    c.in_ok-found.ensures.rows

pub returns-clause-rows_fit : goal.returns-clause-rows_fit
returns-clause-rows_fit g c =
    read_fits c.args.self.now.schema (g.C.Connector.seen c.args.self.now.below).told (held_in c.args.self.now.overlay) c.args.table.0 (passes c.args.tests.now) c.in_ok-found.found.rows c.in_ok-rows.rows.rows (standing c.args.self.now.schema (held_in c.args.self.now.overlay) (g.C.Connector.seen c.args.self.now.below) c.requires.stands)
    (subst (λ (t : Table). LiesOver t ((held_in c.args.self.now.overlay).layers c.args.table.0).entries (passes c.args.tests.now) c.in_ok-found.found.rows c.in_ok-rows.rows.rows) (c.shape_of-shape.ensures ∙ ap (λ (s : Schema). table_at s c.args.table.0) c.get.ensures) c.in_ok-rows.ensures)
    (of_layout (g.C.Connector.seen c.args.self.now.below) (layout_of c.args.self.now.schema) (λ (shapes : Schema). list_all (λ row. fit_columns shapes.choices (table_at shapes c.args.table.0).columns row.values) c.in_ok-found.found.rows ≡ true) c.requires.stands.attached c.in_ok-found.ensures.rows_fit)
