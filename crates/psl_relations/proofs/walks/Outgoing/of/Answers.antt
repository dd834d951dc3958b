use Rattle.std.proofs.Common.{rules, map, filter, ap, ◌∙◌}
use Rattle.psl_relations.specs.Back.{same_text}
use Rattle.psl_relations.proofs.Stepped.{in_group}
use Rattle.psl_relations.proofs.walks.Outgoing.of.Goals as goal

pub invariant_of-result : goal.invariant_of-result
invariant_of-result c = (
  search rules,
  λ model.
      in_group _ c.in_ok-keyed.keyed.items model c.args.steps.now (c.in_ok-groups.ensures model ∙ ap (λ all. map (λ one. one.1) (filter (λ one. same_text one.0 model) all)) c.as_slice.ensures.value)
      (c.in_ok-keyed.ensures model),
)
