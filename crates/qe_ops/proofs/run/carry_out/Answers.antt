use Rattle.std.proofs.Common.{sym, subst}
use Rattle.qe_base.specs.declared.write.Op.{Op}
use Rattle.qe_writing.specs.Plain.{plain}
use Rattle.qe_ops.specs.Performs.{Carries}
use Rattle.qe_ops.proofs.run.carry_out.Goals as goal

pub returns-in-FindUnique-clause-carries : goal.returns-in-FindUnique-clause-carries
returns-in-FindUnique-clause-carries g c = λ outside.
    subst (λ (o : Op). Carries (plain c.args.schema.now o outside) (g.V.View.seen c.args.view.now) (g.V.View.seen c.find.new.view) c.find.result) (sym c.in-FindUnique.is) (c.find.ensures.carries outside)

pub returns-in-Create-clause-carries : goal.returns-in-Create-clause-carries
returns-in-Create-clause-carries g c = λ outside.
    subst (λ (o : Op). Carries (plain c.args.schema.now o outside) (g.V.View.seen c.args.view.now) (g.V.View.seen c.create.new.view) c.create.result) (sym c.in-Create.is) (c.create.ensures.carries outside)
