use Rattle.std.proofs.Common.{refl}
use Rattle.psl_rules.specs.Parts.{first, place}
use Rattle.qe_text.specs.Lists.{repeats}
use Rattle.psl_rules.specs.Names.{same_name}
use Rattle.psl_parts.proofs.Repeated.{turn}
use Rattle.psl_parts.proofs.repeats.first_repeat.Goals as goal

pub loop-name-preserved : goal.loop-name-preserved
loop-name-preserved c =
    turn c.args.names.now c.loop-name.name-index c.name-item.result c.loop-name.seen.keys c.insert.new.self.keys c.as_str.result c.loop-name.found c.noted-found.result _ c.in_ok-is_new.is_new
    c.loop-name-test.true c.name-item.is c.as_str.ensures.text c.in_ok-is_new.ensures.added c.in_ok-is_new.ensures.keys c.noted-found.ensures c.loop-name.invariant
