use Rattle.psl_keys.proofs.Sets.{turn}
use Rattle.psl_keys.proofs.repeated.first_same_fields.Goals as goal

pub loop-key-preserved : goal.loop-key-preserved
loop-key-preserved c =
    turn c.args.keys.now c.loop-key.key-index c.key-item.result c.in_ok-fields_of.field-0 c.loop-key.seen c.insert.new.self c.loop-key.found c.noted-found.result _ c.in_ok-is_new.is_new
    c.loop-key-test.true c.key-item.is c.in_ok-fields_of.ensures c.in_ok-is_new.ensures.added c.in_ok-is_new.ensures.updates.0 c.noted-found.ensures c.loop-key.invariant
