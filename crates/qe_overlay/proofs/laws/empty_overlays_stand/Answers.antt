use Rattle.qe_overlay.proofs.Starting.{empty_stands}
use Rattle.qe_overlay.proofs.laws.empty_overlays_stand.Goals as goal

pub returns : goal.returns
returns c = empty_stands
