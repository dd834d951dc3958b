use Rattle.psl_relations.proofs.Added.{turn_name}
use Rattle.psl_relations.proofs.key_sets.gathered.Goals as goal

pub loop-name-preserved : goal.loop-name-preserved
loop-name-preserved c = (
  c.insert.ensures.ordered,
  λ name. turn_name c.args.names.now c.loop-name.name-index _ name c.loop-name.set c.insert.new.self _ c.loop-name-test.true (c.in_ok-insert.ensures.updates.0 name) (c.loop-name.invariant.1 name),
)
