use Rattle.std.proofs.Common.{refl, inl, inr}
use Rattle.qe_cli.proofs.Runs.{attached_for}
use Rattle.qe_cli.proofs.run.open.Goals as goal

pub returns-in_default-clause-err : goal.returns-in_default-clause-err
returns-in_default-clause-err g c = inl refl

pub returns-clause-err : goal.returns-clause-err
returns-clause-err g c =
    let seen = g.C.Connector.seen in
    inr (c.attach.result, attached_for c.args.schema.now c.in-Ok.layout (seen c.args.connector.now) (seen c.attach.new.self) c.attach.result c.in-Ok.ensures c.attach.ensures)
