use Rattle.qe_mem.proofs.Gathering.{one_key, gathered_is, if_same}
use Rattle.qe_mem.proofs.listing.Listing.find_all.Goals as goal

pub returns-in-len1 : goal.returns-in-len1
returns-in-len1 c = if_same c.find.result _ _ (one_key c.args.table.now c.args.self.now c.args.keys.now c.key-item.result c.requires.index c.in-len1.len_at_least c.in-len1.len_below c.key-item.is) c.find.ensures

pub returns-in_default : goal.returns-in_default
returns-in_default c = if_same c.gather.result _ _ (gathered_is c.args.table.now c.args.self.now c.args.keys.now c.requires.in_order c.requires.index) c.gather.ensures
