use Rattle.qe_mem.proofs.Turning.{last_can, settle_more}
use Rattle.qe_mem.proofs.listing.Listing.settle_all.Goals as goal

pub settle-requires-clause-columns : goal.settle-requires-clause-columns
settle-requires-clause-columns c = (last_can c.turns.turns c.pop.new.self c.in-Some.turn c.turns.self c.in-Some.ensures c.turns.invariant.0).1

pub settle-requires-clause-there : goal.settle-requires-clause-there
settle-requires-clause-there c = (last_can c.turns.turns c.pop.new.self c.in-Some.turn c.turns.self c.in-Some.ensures c.turns.invariant.0).2

pub turns-preserved : goal.turns-preserved
turns-preserved c = (
  rw (c.settle.ensures) ((last_can c.turns.turns c.pop.new.self c.in-Some.turn c.turns.self c.in-Some.ensures c.turns.invariant.0).0),
  settle_more c.turns.turns c.pop.new.self c.in-Some.turn c.turns.self c.settle.new.self _ c.in-Some.ensures c.settle.ensures c.turns.invariant.1,
)
