use Rattle.std.proofs.Common.{◌+◌, ◌∙◌, refl}
use Rattle.qe_node.proofs.Led.{leads_entered}
use Rattle.qe_node.proofs.answer.enter.Goals as goal

pub returns-clause-enters : goal.returns-clause-enters
returns-clause-enters g c = record {
  reply = c.handle-told.result.reply;
  text_is = c.text_of.ensures ∙ c.handle-told.ensures.text;
  leads = leads_entered c.args.core.now.schema c.args.op c.handle-told.result.reply (g.C.Connector.seen c.args.core.now.view.below) c.args.place.now (g.C.Connector.seen c.handle-told.new.self.view.below) (c.args.place.now + 1) refl
      c.handle-told.ensures.history c.handle-told.ensures.calls;
}
