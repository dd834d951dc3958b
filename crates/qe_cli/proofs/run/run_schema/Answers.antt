use Rattle.qe_cli.proofs.Runs.{short_comes}
use Rattle.qe_cli.proofs.run.run_schema.Goals as goal

pub returns-in_default-clause-comes : goal.returns-in_default-clause-comes
returns-in_default-clause-comes g c = short_comes c.args.schema (g.H.Outer.seen c.args.host.now) (g.C.Connector.seen c.args.connector)
