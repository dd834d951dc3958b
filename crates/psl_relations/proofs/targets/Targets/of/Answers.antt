use Rattle.std.proofs.Common.{rules, map, filter, ap, ◌∙◌}
use Rattle.psl_rules.specs.Parts.{models}
use Rattle.psl_relations.specs.Back.{same_text}
use Rattle.psl_relations.specs.Called.{is_called}
use Rattle.psl_relations.proofs.Grouped.{in_group}
use Rattle.psl_relations.proofs.targets.Targets.of.Goals as goal

pub invariant_of-result : goal.invariant_of-result
invariant_of-result c = (
  search rules,
  λ name.
      in_group _ c.in_ok-named.named.items name (models c.args.models.now) (c.in_ok-groups.ensures name ∙ ap (λ all. map (λ one. one.1) (filter (λ one. same_text one.0 name) all)) c.as_slice.ensures.value)
      (c.in_ok-named.ensures name ∙ ap (filter (is_called name.now)) c.all.ensures),
)
