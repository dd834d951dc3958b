use Rattle.qe_view.proofs.Alike.{alike}
use Rattle.qe_view.proofs.tests.are_alike.Goals as goal

-- src/tests.rt:37:1
pub returns : goal.returns
returns c = alike c.args.text.now c.args.other.now c.eq_ignore_ascii_case.result c.eq_ignore_ascii_case.ensures.test
