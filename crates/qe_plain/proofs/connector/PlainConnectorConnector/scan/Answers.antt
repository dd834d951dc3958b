use Rattle.qe_plain.proofs.Fitting.{passing_held}
use Rattle.qe_plain.proofs.connector.PlainConnectorConnector.scan.Goals as goal

pub returns-clause-rows_fit : goal.returns-clause-rows_fit
returns-clause-rows_fit c =
    rw (← c.self.view_is) (passing_held c.self.inside.attached c.self.inside.tables c.args.tests.now c.args.table.0 c.in_ok-rows.rows c.self.invariant.fits c.in_ok-rows.ensures)
