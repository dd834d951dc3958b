use Rattle.std.proofs.Common.{rules}
use Rattle.psl_sound.proofs.Sound.{sound_as}
use Rattle.psl_schema.proofs.checking.schema.Goals as goal

-- the tree that the schema is the value of
pub new-requires : goal.new-requires
new-requires c = sound_as _ c.args.tree.now c.requires (search rules)
