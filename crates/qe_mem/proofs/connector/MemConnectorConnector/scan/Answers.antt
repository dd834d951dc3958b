use Rattle.qe_mem.proofs.Fitting.{passing_fit}
use Rattle.qe_mem.proofs.connector.MemConnectorConnector.scan.Goals as goal

pub returns-clause-rows_fit : goal.returns-clause-rows_fit
returns-clause-rows_fit c = rw (← c.self.view_is) (passing_fit c.self.inside.attached c.self.inside.tables c.args.tests.now c.args.table.0 c.in_ok-rows.rows c.self.invariant.fits c.in_ok-rows.ensures)
