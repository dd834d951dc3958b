use Rattle.std.proofs.Common.{refl}
use Rattle.psl_relations.proofs.Gathered.{on_side}
use Rattle.psl_values.proofs.Sided.{turn}
use Rattle.psl_values.proofs.numbered.with_sides.Goals as goal

pub loop-number-preserved : goal.loop-number-preserved
loop-number-preserved c = λ side.
    let end = c.index-ends-number.result in
    turn c.args.ends.now c.loop-number.number end c.loop-number.sided.items c.push.new.self.items (c.side_of-side.result, (c.loop-number.number, end)) side _
    c.loop-number-test.true c.index-ends-number.is refl (on_side c.side_of-side.result side end.now c.side_of-side.ensures.model c.side_of-side.ensures.target c.side_of-side.ensures.name) c.in_ok-push.ensures.items
    (c.loop-number.invariant side)
