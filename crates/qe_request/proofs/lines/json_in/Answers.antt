use Rattle.std.proofs.Common.{sym}
use Rattle.qe_request.proofs.Texts.{found_in, none_in}
use Rattle.qe_request.proofs.lines.json_in.Goals as goal

pub returns-in-Ok : goal.returns-in-Ok
returns-in-Ok c = sym (found_in _ _ c.in-Ok.ensures.ok.0 c.in-Ok.ensures.ok.1)

pub returns-in_default : goal.returns-in_default
returns-in_default c = sym (none_in _ (c.in-Err.ensures.err (λ is. c.in_default.not-Memory (c.classify.ensures.memory.1 is))))
