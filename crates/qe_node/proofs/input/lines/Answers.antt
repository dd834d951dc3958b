use Rattle.std.proofs.Common.{[], subst}
use Rattle.qe_base.specs.Schemas.{Schema}
use Rattle.qe_history.specs.Exchange.{history_of}
use Rattle.qe_node.proofs.Whole.{ran_of, ran_short}
use Rattle.qe_node.proofs.input.lines.Goals as goal
use Rattle.qe_session.specs.Standing.{StandsFor}

pub returns-in_default-clause-ran : goal.returns-in_default-clause-ran
returns-in_default-clause-ran g c = λ opening stands.
    let given = g.C.Connector.seen c.args.core.now.view.below in
    let below = g.C.Connector.seen c.greet.new.core.view.below in
    let greeted = subst (λ (s : Schema). StandsFor s given opening [] → StandsFor s below opening (history_of [])) c.requires.schema (c.greet.ensures.stands opening) in
    ran_short c.args.schema.now opening (g.P.Outer.seen c.args.port.now) given below (greeted stands) c.greet.ensures.calls

pub returns-clause-ran : goal.returns-clause-ran
returns-clause-ran g c = λ opening stands.
    let given = g.C.Connector.seen c.args.core.now.view.below in
    let below = g.C.Connector.seen c.greet.new.core.view.below in
    let greeted = subst (λ (s : Schema). StandsFor s given opening [] → StandsFor s below opening (history_of [])) c.requires.schema (c.greet.ensures.stands opening) in
    ran_of c.take_pieces.result c.args.schema.now opening (g.P.Outer.seen c.args.port.now) (g.P.Outer.seen c.take_pieces.new.port) given below (g.C.Connector.seen c.take_pieces.new.core.view.below) c.take_pieces.new.place
    (greeted stands) c.greet.ensures.calls c.take_pieces.ensures.ran
