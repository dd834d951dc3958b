use Rattle.std.proofs.Common.{rules, refl}
use Rattle.psl_relations.proofs.Exchanged.{turn_name}
use Rattle.psl_relations.proofs.referred.add_fields.Goals as goal

pub loop-name-preserved : goal.loop-name-preserved
loop-name-preserved c = λ of name.
    turn_name c.args.names.now c.loop-name.name-index c.loop-name.fields.keys c.insert.new.self.keys _ c.args.model.now of name _
    c.loop-name-test.true (search rules) refl c.in_ok-insert.ensures.keys (c.loop-name.invariant of name)
