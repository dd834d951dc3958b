use Rattle.qe_overlay.proofs.Narrowing.{narrowed_stay, narrowed_fit}
use Rattle.qe_overlay.proofs.laws.narrowed_overlays_fit.Goals as goal

pub returns-clause-stay : goal.returns-clause-stay
returns-clause-stay c = narrowed_stay

pub returns-clause-fit : goal.returns-clause-fit
returns-clause-fit c = narrowed_fit
