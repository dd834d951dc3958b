use Rattle.std.proofs.Common.{List, refl, subst}
use Rattle.qe_base.specs.declared.event.What.TheVariants as what
use Rattle.qe_base.specs.declared.write.Op.{Op}
use Rattle.qe_session.specs.Handling.{Does}
use Rattle.qe_session.proofs.Stepping.{did, no_greeting}
use Rattle.qe_session.proofs.machine.Core.move_on.Goals as goal

pub returns-in-None-clause-moves : goal.returns-in-None-clause-moves
returns-in-None-clause-moves g c = did c.args.self.now.schema c.args.place c.args.event.now (what.Single c.in-Single.op) _ _ _ c.in-Single.is tt (c.in-None.ensures.none refl) c.single.ensures.does

pub returns-in-None-unseen-clause-moves : goal.returns-in-None-unseen-clause-moves
returns-in-None-unseen-clause-moves g c =
    did c.args.self.now.schema c.args.place c.args.event.now (what.Batch c.in-Batch.ops) _ _ _ c.in-Batch.is tt (c.in-None-unseen.ensures.none refl)
    (subst (λ (ops : List Op). Does c.args.self.now.schema (what.Batch ops) c.batch.result.reply (g.C.Connector.seen c.args.self.now.view.below) (g.C.Connector.seen c.batch.new.self.view.below)) c.as_slice.ensures c.batch.ensures.does)

pub returns-in-Some-clause-greets : goal.returns-in-Some-clause-greets
returns-in-Some-clause-greets g c = no_greeting c.args.event.now.what (what.Single c.in-Single.op) _ c.in-Single.is (λ greets. greets)

pub returns-in-None-clause-greets : goal.returns-in-None-clause-greets
returns-in-None-clause-greets g c = no_greeting c.args.event.now.what (what.Single c.in-Single.op) _ c.in-Single.is (λ greets. greets)

pub returns-in-Some-unseen-clause-greets : goal.returns-in-Some-unseen-clause-greets
returns-in-Some-unseen-clause-greets g c = no_greeting c.args.event.now.what (what.Batch c.in-Batch.ops) _ c.in-Batch.is (λ greets. greets)

pub returns-in-None-unseen-clause-greets : goal.returns-in-None-unseen-clause-greets
returns-in-None-unseen-clause-greets g c = no_greeting c.args.event.now.what (what.Batch c.in-Batch.ops) _ c.in-Batch.is (λ greets. greets)
