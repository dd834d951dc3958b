use Rattle.psl_text.proofs.AlikeBlocks.{no_blocks_beyond}
use Rattle.psl_text.proofs.laws.first_from_the_left.Goals as goal

pub returns : goal.returns
returns c before us vs t s bs rest d = no_blocks_beyond before us vs t s bs rest d
