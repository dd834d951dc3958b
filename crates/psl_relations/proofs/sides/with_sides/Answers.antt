use Rattle.std.proofs.Common.{refl}
use Rattle.psl_relations.proofs.Gathered.{on_side, turn, turned_all}
use Rattle.psl_relations.proofs.sides.with_sides.Goals as goal

pub loop-end-preserved : goal.loop-end-preserved
loop-end-preserved c = λ side.
    turn c.args.ends.now c.loop-end.end-index c.end-item.result c.loop-end.sided.items c.push.new.self.items _ side _ c.loop-end-test.true c.end-item.is refl
    (on_side c.side_of-side.result side c.end-item.result c.side_of-side.ensures.model c.side_of-side.ensures.target c.side_of-side.ensures.name) c.in_ok-push.ensures.items (c.loop-end.invariant side)

pub returns : goal.returns
returns c = λ side. turned_all c.args.ends.now c.loop-end.end-index c.loop-end.sided.items side _ c.loop-end-test.false (c.loop-end.invariant side)
