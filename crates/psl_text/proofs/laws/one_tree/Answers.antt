use Rattle.psl_text.proofs.BlockRules.{one_tree_only}
use Rattle.psl_text.proofs.laws.one_tree.Goals as goal

pub returns : goal.returns
returns c text a b h k = one_tree_only text a b h k
