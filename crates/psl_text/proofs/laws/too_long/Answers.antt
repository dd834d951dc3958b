use Rattle.psl_text.proofs.FaultTexts.{long_refused}
use Rattle.psl_text.proofs.laws.too_long.Goals as goal

pub returns : goal.returns
returns c text long = long_refused text long
