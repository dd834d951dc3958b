use Rattle.std.proofs.Common.{◌≡◌, ◌∙◌, ◌<◌, ◌+◌, ◌-◌, ◌^◌, ap, subst, true, min, List, length}
use Rattle.std.specs.Prelude.{IfSome}
use Rattle.std.specs.List.{list_all}
use Rattle.std.specs.Option.{option_copied}
use Rattle.qe_base.specs.declared.schema.Table.{Table}
use Rattle.qe_base.specs.declared.value.Row.{Row}
use Rattle.qe_base.specs.Schemas.{Schema}
use Rattle.qe_schema.specs.Fits.{fit_columns}
use Rattle.qe_schema.specs.Tables.{table_at}
use Rattle.qe_view.specs.After.{page_in}
use Rattle.qe_view.specs.Right.{has_table, can_page}
use Rattle.qe_view.specs.Layouts.{layout_of}
use Rattle.qe_overlay.specs.Fits.{PageLiesOver}
use Rattle.qe_overlay.specs.Held.{held_in}
use Rattle.qe_overlay.proofs.Views.{page_gives, page_fits, standing, of_layout, has_layout, table_of_page}
use Rattle.qe_overlay.proofs.view.OverlayViewView.page.Goals as goal

pub page-requires : goal.page-requires
page-requires g c = has_layout (g.C.Connector.seen c.args.self.now.below) (layout_of c.args.self.now.schema) (λ (shapes : Schema). can_page shapes c.args.table.0 (option_copied c.args.from) ≡ true) c.requires.stands.attached c.requires.can

pub shape_of-shape-requires : goal.shape_of-shape-requires
shape_of-shape-requires g c = ap (λ (s : Schema). has_table s c.args.table.0) c.get.ensures ∙ table_of_page c.args.self.now.schema c.args.table.0 (option_copied c.args.from) c.requires.can

pub returns-clause-rows : goal.returns-clause-rows
returns-clause-rows g c =
    page_gives c.args.self.now.schema (g.C.Connector.seen c.args.self.now.below).told (held_in c.args.self.now.overlay) c.args.table.0 (option_copied c.args.from) c.args.backward c.args.count c.saturating_add-most.result (2 ^ 64 - 1) c.in_ok-found.found.rows c.in_ok-rows.rows.rows
    (standing c.args.self.now.schema (held_in c.args.self.now.overlay) (g.C.Connector.seen c.args.self.now.below) c.requires.stands)
    c.requires.can
    (c.saturating_add-most.ensures ∙ ap (λ held. min (c.args.count + held) (2 ^ 64 - 1)) c.entered-held.ensures)
    (subst (λ (rows : List Row). length rows < 2 ^ 64 - 1) c.as_slice.ensures c.are_few.ensures)
    (subst (λ (t : Table). PageLiesOver t ((held_in c.args.self.now.overlay).layers c.args.table.0).entries (option_copied c.args.from) c.args.backward c.args.count c.in_ok-found.found.rows c.in_ok-rows.rows.rows) (c.shape_of-shape.ensures ∙ ap (λ (s : Schema). table_at s c.args.table.0) c.get.ensures) c.in_ok-rows.ensures)
    (of_layout (g.C.Connector.seen c.args.self.now.below) (layout_of c.args.self.now.schema) (λ (shapes : Schema). IfSome (g.C.Connector.seen c.args.self.now.below).told (λ tables. c.in_ok-found.found.rows ≡ page_in shapes (option_copied c.args.from) c.args.backward c.saturating_add-most.result c.args.table.0 tables)) c.requires.stands.attached c.in_ok-found.ensures.rows)

pub returns-clause-rows_fit : goal.returns-clause-rows_fit
returns-clause-rows_fit g c =
    page_fits c.args.self.now.schema (g.C.Connector.seen c.args.self.now.below).told (held_in c.args.self.now.overlay) c.args.table.0 (option_copied c.args.from) c.args.backward c.args.count c.in_ok-found.found.rows c.in_ok-rows.rows.rows
    (standing c.args.self.now.schema (held_in c.args.self.now.overlay) (g.C.Connector.seen c.args.self.now.below) c.requires.stands)
    (subst (λ (t : Table). PageLiesOver t ((held_in c.args.self.now.overlay).layers c.args.table.0).entries (option_copied c.args.from) c.args.backward c.args.count c.in_ok-found.found.rows c.in_ok-rows.rows.rows) (c.shape_of-shape.ensures ∙ ap (λ (s : Schema). table_at s c.args.table.0) c.get.ensures) c.in_ok-rows.ensures)
    (of_layout (g.C.Connector.seen c.args.self.now.below) (layout_of c.args.self.now.schema) (λ (shapes : Schema). list_all (λ row. fit_columns shapes.choices (table_at shapes c.args.table.0).columns row.values) c.in_ok-found.found.rows ≡ true) c.requires.stands.attached c.in_ok-found.ensures.rows_fit)
