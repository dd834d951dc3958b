use Rattle.std.proofs.Common.{rules, map, filter, ap, ◌∙◌}
use Rattle.psl_relations.specs.Back.{same_side}
use Rattle.psl_relations.proofs.Gathered.{in_group}
use Rattle.psl_relations.proofs.sides.Sides.of.Goals as goal

pub invariant_of-result : goal.invariant_of-result
invariant_of-result c = (
  search rules,
  λ side.
      in_group _ c.in_ok-sided.sided.items side c.args.ends.now (c.in_ok-groups.ensures side ∙ ap (λ all. map (λ one. one.1) (filter (λ one. same_side one.0 side) all)) c.as_slice.ensures.value)
      (c.in_ok-sided.ensures side),
)
