use Rattle.psl_keys.proofs.Pairs.{turn_entry, all_entries}
use Rattle.psl_keys.proofs.members.add_members.Goals as goal

pub loop-entry-preserved : goal.loop-entry-preserved
loop-entry-preserved c = λ pair.
    turn_entry c.as_slice-entry-items.result.now c.loop-entry.entry-index c.entry-item.result _ pair.1.now pair c.loop-entry.pairs c.add_member.new.pairs _
    c.loop-entry-test.true c.entry-item.is (c.in_ok-add_member.ensures pair) (c.loop-entry.invariant pair)
