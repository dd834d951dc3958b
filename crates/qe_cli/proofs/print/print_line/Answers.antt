use Rattle.qe_cli.proofs.Written.{printed}
use Rattle.qe_cli.proofs.print.print_line.Goals as goal

pub returns : goal.returns
returns g c =
    let wrote = c.write_all.ensures in
    printed c.write_all.result c.args.line.now (g.H.Outer.seen c.args.host.now) (g.H.Outer.seen c.write_all.new.port) wrote.ok wrote.err wrote.wrote.cause wrote.wrote.others
