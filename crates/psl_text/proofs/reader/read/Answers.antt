use Rattle.std.proofs.Common.{rules, arith}
use Rattle.std.proofs.lemmas.Grind.{common_steps}
use Rattle.psl_text.proofs.Whole.{tree_of_text}
use Rattle.psl_text.proofs.reader.read.Goals as goal

pub returns-in_err-blocks-clause-exact : goal.returns-in_err-blocks-clause-exact
returns-in_err-blocks-clause-exact c =
    let whole = tree_of_text c.args.text.now (omega arith) c.in-Ok.ensures.cases.1 in
    first_of (search rules, grind (arith, common_steps))

pub returns-clause-exact : goal.returns-clause-exact
returns-clause-exact c =
    let whole = tree_of_text c.args.text.now (omega arith) c.in-Ok.ensures.cases.1 in
    first_of (search rules, grind (arith, common_steps))

pub returns-clause-ok : goal.returns-clause-ok
returns-clause-ok c = record { short = omega arith; utf8 = c.in-Ok.ensures.cases.1 }
