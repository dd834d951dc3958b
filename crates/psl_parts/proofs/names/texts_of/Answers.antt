use Rattle.psl_parts.proofs.Distinct.{turn_text, all_texts}
use Rattle.psl_parts.proofs.names.texts_of.Goals as goal

pub loop-name-preserved : goal.loop-name-preserved
loop-name-preserved c = λ text. turn_text c.args.names.now c.loop-name.name-index _ c.loop-name.texts.keys c.insert.new.self.keys text _ c.loop-name-test.true c.in_ok-insert.ensures.keys (c.loop-name.invariant text)

pub returns : goal.returns
returns c = λ text. all_texts c.args.names.now c.loop-name.name-index text _ _ c.loop-name-test.false (c.loop-name.invariant text)
