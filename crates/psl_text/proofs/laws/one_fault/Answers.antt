use Rattle.psl_text.proofs.FaultTexts.{one_fault_only}
use Rattle.psl_text.proofs.laws.one_fault.Goals as goal

pub returns : goal.returns
returns c text e f h k = one_fault_only text e f h k
