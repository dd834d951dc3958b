use Rattle.std.proofs.Common.{sym, subst}
use Rattle.std.specs.Option.{option_copied}
use Rattle.qe_view.specs.Attached.{CanPage}
use Rattle.qe_mem.specs.Mem.{mem_seen}
use Rattle.qe_mem.proofs.Fitting.{page_given, page_given_fits}
use Rattle.qe_mem.proofs.connector.MemConnectorConnector.page.Goals as goal

pub returns-clause-rows : goal.returns-clause-rows
returns-clause-rows c =
    let inside = c.self.inside in
    let from = option_copied c.args.from in
    rw (← c.self.view_is) (page_given inside.attached inside.tables c.args.table.0 from c.args.backward c.args.count c.in_ok-rows.rows c.self.invariant.columns (subst (λ m. CanPage (mem_seen m) c.args.table.0 from) (sym c.self.view_is) c.requires) c.in_ok-rows.ensures)

pub returns-clause-rows_fit : goal.returns-clause-rows_fit
returns-clause-rows_fit c =
    let inside = c.self.inside in
    let from = option_copied c.args.from in
    rw (← c.self.view_is)
    (page_given_fits inside.attached inside.tables c.args.table.0 from c.args.backward c.args.count c.in_ok-rows.rows c.self.invariant.fits
    (page_given inside.attached inside.tables c.args.table.0 from c.args.backward c.args.count c.in_ok-rows.rows c.self.invariant.columns (subst (λ m. CanPage (mem_seen m) c.args.table.0 from) (sym c.self.view_is) c.requires) c.in_ok-rows.ensures))
