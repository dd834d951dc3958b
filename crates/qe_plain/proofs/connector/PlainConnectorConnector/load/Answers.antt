use Rattle.qe_plain.proofs.Fitting.{wanted_held}
use Rattle.qe_plain.proofs.connector.PlainConnectorConnector.load.Goals as goal

pub returns-clause-rows_fit : goal.returns-clause-rows_fit
returns-clause-rows_fit c =
    rw (← c.self.view_is) (wanted_held c.self.inside.attached c.self.inside.tables c.args.columns.now c.args.keys.now c.args.table.0 c.in_ok-rows.rows c.self.invariant.fits c.in_ok-rows.ensures)
