use Rattle.std.specs.Option.{option_copied}
use Rattle.qe_plain.proofs.Fitting.{page_held}
use Rattle.qe_plain.proofs.connector.PlainConnectorConnector.page.Goals as goal

pub returns-clause-rows_fit : goal.returns-clause-rows_fit
returns-clause-rows_fit c =
    rw (← c.self.view_is)
    (page_held c.self.inside.attached c.self.inside.tables (option_copied c.args.from) c.args.backward c.args.count c.args.table.0 c.in_ok-rows.rows c.self.invariant.fits c.in_ok-rows.ensures)
