use Rattle.std.proofs.Common.{subst}
use Rattle.qe_base.specs.Schemas.{Schema}
use Rattle.qe_node.specs.Serving.{Enters}
use Rattle.qe_node.proofs.Answered.{entered_takes, told_takes}
use Rattle.qe_node.proofs.answer.answer.Goals as goal

pub returns-in-Ok-clause-takes : goal.returns-in-Ok-clause-takes
returns-in-Ok-clause-takes g c =
    let below = g.C.Connector.seen c.args.core.now.view.below in
    let after = g.C.Connector.seen c.enter-text.new.core.view.below in
    entered_takes c.args.schema.now c.args.line.now c.in-Ok.op c.enter-text.result below c.args.place.now after c.enter-text.new.place (g.P.Outer.seen c.args.port.now) (g.P.Outer.seen c.write_text.new.port) c.write_text.result c.in-Ok.ensures.ok
    (subst (λ (s : Schema). Enters s c.in-Ok.op c.enter-text.result below c.args.place.now after c.enter-text.new.place) c.requires.schema c.enter-text.ensures.enters) c.write_text.ensures

pub returns-in-Err-clause-takes : goal.returns-in-Err-clause-takes
returns-in-Err-clause-takes g c =
    told_takes c.args.schema.now c.args.line.now c.in-Err.fault c.read_line.result (g.C.Connector.seen c.args.core.now.view.below) c.args.place.now (g.P.Outer.seen c.args.port.now) (g.P.Outer.seen c.write_all.new.port) c.fault_line.result.now
    c.write_all.result c.in-Err.is c.read_line.ensures.not_json c.read_line.ensures.unbuilt c.fault_line.ensures c.write_all.ensures
