use Rattle.std.proofs.Common.{◌∙◌, ap, map, filter, not, List, Bor}
use Rattle.psl_rules.specs.Relations.{End, has_fields}
use Rattle.psl_rules.specs.Updates.{Step, is_arrow, is_on_cycle, step_of}
use Rattle.psl_parts.proofs.Held.{found_among}
use Rattle.psl_relations.proofs.updates.updates_form_no_cycle.Goals as goal

pub returns : goal.returns
returns c =
    let ends_are = c.as_slice.ensures.value ∙ c.in_ok-ends.ensures in
    let arrows_are = c.in_ok-arrows.ensures ∙ ap (λ (all : List End). filter (is_arrow (filter has_fields all)) (filter has_fields all)) ends_are in
    let steps_are = c.as_slice-3.ensures.value ∙ c.in_ok-steps.ensures ∙ ap (map step_of) (ap (map (λ (arrow : Bor End). arrow.now)) c.as_slice-2.ensures.value ∙ arrows_are) in
    found_among (λ (steps : List Step) (arrow : End). not (is_on_cycle steps arrow)) _ _ _ _ c.first_on_cycle.result (c.in_ok-ranked.ensures ∙ steps_are)
    (ap (map (λ (arrow : Bor End). arrow.now)) c.as_slice-4.ensures.value ∙ arrows_are) c.first_on_cycle.ensures
