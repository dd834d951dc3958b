use Rattle.std.proofs.Common.{◌∙◌, ap, map, filter, Bor}
use Rattle.psl_rules.specs.Parts.{models}
use Rattle.psl_rules.specs.Relations.{End, has_fields}
use Rattle.psl_rules.specs.Foreign.{has_types_among}
use Rattle.psl_parts.proofs.Held.{found_among}
use Rattle.psl_relations.proofs.foreign.references_have_the_type.Goals as goal

pub returns : goal.returns
returns c =
    found_among has_types_among _ _ _ _ c.first_of_other_types.result (ap models c.in_ok-targets.ensures)
    (ap (map (λ (end : Bor End). end.now)) c.as_slice-2.ensures.value ∙ c.in_ok-held.ensures ∙ ap (filter has_fields) (c.as_slice.ensures.value ∙ c.in_ok-ends.ensures))
    c.first_of_other_types.ensures
