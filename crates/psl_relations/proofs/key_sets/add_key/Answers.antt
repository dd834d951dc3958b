use Rattle.psl_relations.proofs.Added.{added}
use Rattle.psl_relations.proofs.key_sets.add_key.Goals as goal

pub returns : goal.returns
returns c = added c.args.sets.now c.insert.new.self c.in_ok-set.set _ c.in_ok-set.ensures c.in_ok-insert.ensures.updates.0
