use Rattle.psl_relations.proofs.Added.{listed_set}
use Rattle.psl_relations.proofs.key_sets.set_of.Goals as goal

pub returns : goal.returns
returns c = listed_set c.in_ok-list.list c.in_ok-set.set _ c.in_ok-list.ensures c.in_ok-set.ensures
