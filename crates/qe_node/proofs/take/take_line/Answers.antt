use Rattle.std.proofs.Common.{ℕ, List, ◌∙◌, false, is_err, refl, subst, sym}
use Rattle.qe_node.specs.Taking.{Takes}
use Rattle.qe_node.proofs.Cutting.{filled_blank, filled_other}
use Rattle.qe_node.proofs.Taken.{takes_none}
use Rattle.qe_node.proofs.take.take_line.Goals as goal

pub returns-then-is_blank_line-clause-takes : goal.returns-then-is_blank_line-clause-takes
returns-then-is_blank_line-clause-takes g c =
    let below = g.C.Connector.seen c.args.core.now.view.below in
    let seen = g.P.Outer.seen c.args.port.now in
    subst (λ (l : List (List ℕ)). Takes false c.args.schema.now l below below c.args.place.now c.args.place.now seen seen) (sym (filled_blank c.args.line.now (sym c.is_blank_line.ensures ∙ c.if-is_blank_line.true)))
    (takes_none c.args.schema.now below c.args.place.now seen seen refl)

pub returns-clause-takes : goal.returns-clause-takes
returns-clause-takes g c =
    let below = g.C.Connector.seen c.args.core.now.view.below in
    let after = g.C.Connector.seen c.answer.new.core.view.below in
    subst (λ (l : List (List ℕ)). Takes (is_err c.answer.result) c.args.schema.now l below after c.args.place.now c.answer.new.place (g.P.Outer.seen c.args.port.now) (g.P.Outer.seen c.answer.new.port))
    (sym (filled_other c.args.line.now (sym c.is_blank_line.ensures ∙ c.if-is_blank_line.false))) c.answer.ensures.takes

pub returns-clause-wrote : goal.returns-clause-wrote
returns-clause-wrote g c = c.answer.ensures.wrote
