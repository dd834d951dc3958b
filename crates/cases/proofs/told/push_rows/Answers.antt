use Rattle.cases.proofs.Scanning.{scans_all}
use Rattle.cases.proofs.told.push_rows.Goals as goal

pub scan-requires : goal.scan-requires
scan-requires g c = scans_all (g.C.Connector.seen c.args.tables.now) c.args.table.0 c.requires
