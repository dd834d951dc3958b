use Rattle.std.proofs.Common.{◌≡◌, ap, map, filter, ◌∙◌, Bor}
use Rattle.std.specs.Prelude.{position}
use Rattle.std.specs.List.{enumerate_from}
use Rattle.psl_rules.specs.Relations.{End, has_fields}
use Rattle.psl_rules.specs.Foreign.{holders}
use Rattle.psl_relations.specs.Back.{same_side}
use Rattle.psl_sound.specs.SchemaOf.{side_a, side_b}
use Rattle.psl_values.specs.Named.{has_names, lie_on}
use Rattle.psl_values.proofs.Sided.{in_group}
use Rattle.psl_values.proofs.numbered.Numbered.of.Goals as goal

pub invariant_of-result : goal.invariant_of-result
invariant_of-result c = let held : map (λ (end : Bor End). end.now) c.as_slice-held.result.now ≡ holders c.args.models.now = ap (map (λ (end : Bor End). end.now)) c.as_slice-held.ensures.value ∙ c.in_ok-held.ensures ∙ ap (filter has_fields) c.requires.ends in (
  λ named. c.in_ok-numbers.ensures named ∙ ap (position (has_names named)) c.requires.ends,
  λ named. c.in_ok-places.ensures named ∙ ap (position (has_names named)) held,
  λ side.
      in_group _ c.in_ok-sided.sided.items side (enumerate_from 0 (holders c.args.models.now))
      (c.in_ok-sides.ensures side ∙ ap (λ all. map (λ one. one.1) (filter (λ one. same_side one.0 side) all)) c.as_slice.ensures.value) (c.in_ok-sided.ensures side ∙ ap (lie_on side) held),
  λ named.
      c.in_ok-places_a.ensures named
      ∙ ap (position (has_names named)) (ap (map (λ (end : Bor End). end.now)) c.as_slice-2.ensures.value ∙ c.in_ok-all_a.ensures ∙ ap (map side_a) c.requires.lists),
  λ named.
      c.in_ok-places_b.ensures named
      ∙ ap (position (has_names named)) (ap (map (λ (end : Bor End). end.now)) c.as_slice-3.ensures.value ∙ c.in_ok-all_b.ensures ∙ ap (map side_b) c.requires.lists),
)
