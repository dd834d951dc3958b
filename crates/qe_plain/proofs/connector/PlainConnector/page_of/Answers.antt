use Rattle.std.proofs.Common.{sym, ap, ◌∙◌, subst}
use Rattle.std.specs.Option.{option_copied}
use Rattle.qe_view.specs.Attached.{Attached, HasTable}
use Rattle.qe_plain.specs.Plain.{Plain, plain_seen}
use Rattle.qe_plain.proofs.Fitting.{shape_found, page_told}
use Rattle.qe_plain.proofs.connector.PlainConnector.page_of.Goals as goal

pub returns-in-Some : goal.returns-in-Some
returns-in-Some c =
    let attached = c.self.inside.attached in
    let there : HasTable (plain_seen (record { attached = attached; kept = c.self.inside.tables; counts = c.self.inside.counts })) c.args.table.0 = subst (λ (p : Plain). HasTable (plain_seen p) c.args.table.0) (sym c.self.view_is) c.requires in
    let shape = shape_found attached c.in-Some.attached c.table_list.result.now c.args.table.0 c.index-table_list-table.result c.in-Some.is there (c.table_list.ensures ∙ ap (λ (a : Attached). a.layout.tables) c.attached.view_is) c.index-table_list-table.is in
    rw (← c.self.view_is)
    (page_told attached c.in-Some.attached c.self.inside.tables c.args.table.0 c.index-table_list-table.result (option_copied c.args.from) c.args.backward c.args.count c.page.result c.in-Some.is shape c.page.ensures)
