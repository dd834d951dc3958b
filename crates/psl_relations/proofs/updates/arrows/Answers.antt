use Rattle.std.proofs.Common.{◌≡◌, ◌∙◌, ap, map, filter, subst, List, Bor}
use Rattle.std.specs.Prelude.{IfOk}
use Rattle.psl_rules.specs.Relations.{End, has_fields}
use Rattle.psl_rules.specs.Updates.{is_arrow}
use Rattle.psl_relations.proofs.updates.arrows.Goals as goal

pub returns : goal.returns
returns c =
    let held = ap (map (λ (end : Bor End). end.now)) c.as_slice.ensures.value ∙ c.in_ok-held.ensures in
    subst (λ (all : List End). IfOk c.arrows_among.result (λ arrows. map (λ arrow. arrow.now) arrows.items ≡ filter (is_arrow (filter has_fields c.args.ends.now)) all)) held
    (subst (λ (all : List End). IfOk c.arrows_among.result (λ arrows. map (λ arrow. arrow.now) arrows.items ≡ filter (is_arrow (filter has_fields all)) (map (λ end. end.now) c.as_slice.result.now))) c.in_ok-referred.ensures c.arrows_among.ensures)
