use Rattle.psl_text.proofs.FaultTexts.{tree_or_fault_only}
use Rattle.psl_text.proofs.laws.never_both.Goals as goal

pub returns : goal.returns
returns c text tree e h k = tree_or_fault_only text tree e h k
