use Rattle.psl_text.proofs.FaultTexts.{tree_or_fault}
use Rattle.psl_text.proofs.laws.some_answer.Goals as goal

pub returns : goal.returns
returns c text = tree_or_fault text
