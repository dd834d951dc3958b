use Rattle.psl_sound.proofs.Sound.{is_sound}
use Rattle.psl_sound.proofs.values_are_sound.Goals as goal

pub returns : goal.returns
returns c = record { sound = is_sound }
