use Rattle.psl_relations.proofs.Added.{turn_entry, all_entries}
use Rattle.psl_relations.proofs.key_sets.sets_of.Goals as goal

pub loop-entry-preserved : goal.loop-entry-preserved
loop-entry-preserved c = λ set names gathers.
    turn_entry c.as_slice-entry-items.result.now c.loop-entry.entry-index c.entry-item.result c.loop-entry.sets c.add_keys_in.new.sets set names _ c.loop-entry-test.true c.entry-item.is c.in_ok-add_keys_in.ensures gathers
    (c.loop-entry.invariant set names gathers)

pub returns : goal.returns
returns c = λ set names gathers.
    all_entries c.as_slice-entry-items.result.now c.args.model.now.entries c.loop-entry.entry-index c.loop-entry.sets set names c.loop-entry-test.false c.as_slice-entry-items.ensures (c.loop-entry.invariant set names gathers)
