use Rattle.std.proofs.Common.{ap, ◌∙◌}
use Rattle.qe_view.specs.Attached.{Connected}
use Rattle.qe_cli.proofs.Runs.{idle_comes, lines_come, ran_over}
use Rattle.qe_cli.proofs.run.run_lines.Goals as goal

pub returns-in-Ok-clause-comes : goal.returns-in-Ok-clause-comes
returns-in-Ok-clause-comes g c = λ given opens.
    let seen = g.C.Connector.seen in
    let before = g.H.Outer.seen c.args.host.now in
    let after = g.H.Outer.seen c.answer_lines-lines.new.host in
    let lines = c.answer_lines-lines in
    let below = ap seen c.in-Ok.ensures.below in
    let ran = ran_over c.args.owner c.args.schema.now lines.result.0 before after (seen c.args.connector) (seen c.in-Ok.core.view.below) (seen lines.result.1) c.requires.same below c.in-Ok.ensures.history lines.ensures.ran in
    lines_come c.from.result lines.result.0 c.args.schema.now before after given (seen c.args.connector) (seen lines.result.1) c.from.ensures opens ran lines.ensures.others (lines.ensures.attached ∙ ap (λ (k : Connected). k.attached) below)

pub returns-in-Err-clause-comes : goal.returns-in-Err-clause-comes
returns-in-Err-clause-comes g c = λ given opens. idle_comes c.args.schema.now (g.H.Outer.seen c.args.host.now) given (g.C.Connector.seen c.args.connector) (g.C.Connector.seen c.in-Err.back) (ap g.C.Connector.seen c.in-Err.ensures.back) opens
