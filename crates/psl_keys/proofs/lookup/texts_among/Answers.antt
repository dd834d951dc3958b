use Rattle.psl_keys.proofs.Known.{turn}
use Rattle.psl_keys.proofs.lookup.texts_among.Goals as goal

pub loop-name-preserved : goal.loop-name-preserved
loop-name-preserved c = λ text.
    turn c.args.names.now c.loop-name.name-index c.name-item.result c.loop-name.texts.keys c.insert.new.self.keys c.as_str.result text _
    c.loop-name-test.true c.name-item.is c.as_str.ensures.text c.in_ok-insert.ensures.keys (c.loop-name.invariant text)
