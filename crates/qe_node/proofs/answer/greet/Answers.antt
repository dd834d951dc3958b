use Rattle.std.proofs.Common.{[], inr, refl}
use Rattle.qe_node.proofs.Led.{greeted}
use Rattle.qe_node.proofs.answer.greet.Goals as goal

pub returns-clause-stands : goal.returns-clause-stands
returns-clause-stands g c = λ opening stands.
    greeted c.args.core.now.schema c.handle-told.result.reply (g.C.Connector.seen c.handle-told.new.self.view.below) opening (c.handle-told.ensures.history opening [] 0 stands refl (inr (refl, tt)))
