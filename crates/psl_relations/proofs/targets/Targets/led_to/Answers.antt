use Rattle.std.proofs.Common.{rules}
use Rattle.psl_relations.proofs.Grouped.{looked_up}
use Rattle.psl_relations.proofs.targets.Targets.led_to.Goals as goal

pub returns : goal.returns
returns c =
    looked_up (λ group. group.items) c.get.result _ c.unwrap_or.result _ c.as_str-name.result.now c.args.end.now c.self.inside.tree.now c.args.self.now c.as_slice.result.now c.as_slice.ensures.value c.unwrap_or.ensures
    c.get.ensures.value c.self.invariant.0 (c.self.invariant.1 c.as_str-name.result) (search rules) (search rules)
