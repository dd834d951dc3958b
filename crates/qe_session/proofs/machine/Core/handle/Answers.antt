use Rattle.qe_session.proofs.Stepping.{goes_on}
use Rattle.qe_session.proofs.machine.Core.handle.Goals as goal

pub returns-clause-history : goal.returns-clause-history
returns-clause-history g c = goes_on c.args.self.now.schema c.args.place c.args.event.now _ _ _ c.move_on.ensures.moves
