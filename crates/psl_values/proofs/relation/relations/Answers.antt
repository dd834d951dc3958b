use Rattle.std.proofs.Common.{◌≡◌, ◌∙◌, ap, subst, map, filter, IfOk, List, Bor}
use Rattle.std.specs.List.{flat_map}
use Rattle.psl_text.specs.declared.tree.Tree.{Tree}
use Rattle.psl_rules.specs.Relations.{End, ends, has_fields, partners_among}
use Rattle.psl_rules.specs.Foreign.{holders}
use Rattle.psl_sound.specs.SchemaOf.{relation_between}
use Rattle.psl_values.proofs.relation.relations.Goals as goal

pub returns : goal.returns
returns c =
    let tree : Tree = c.args.types.now in
    let ends_are : c.in_ok-ends.ends.items ≡ ends tree = c.in_ok-ends.ensures ∙ ap ends c.in_ok-tree.ensures in
    let held_are : map (λ (end : Bor End). end.now) c.as_slice-3.result.now ≡ holders tree =
    ap (map (λ (end : Bor End). end.now)) c.as_slice-3.ensures.value ∙ c.in_ok-held.ensures ∙ ap (filter has_fields) (c.as_slice.ensures.value ∙ ends_are) in
    let sides_are : c.in_ok-sides.sides ≡ ends tree = c.in_ok-sides.ensures ∙ c.as_slice-2.ensures.value ∙ ends_are in
    subst (λ (one : Tree). IfOk c.relations_held.result (λ relations. relations ≡ flat_map (λ holder. map (relation_between one holder) (partners_among (ends tree) holder)) (holders tree))) c.in_ok-models.ensures
    (subst (λ (all : List End). IfOk c.relations_held.result (λ relations. relations ≡ flat_map (λ holder. map (relation_between c.in_ok-models.models holder) (partners_among all holder)) (holders tree))) sides_are
    (subst (λ (held : List End). IfOk c.relations_held.result (λ relations. relations ≡ flat_map (λ holder. map (relation_between c.in_ok-models.models holder) (partners_among c.in_ok-sides.sides holder)) held)) held_are c.relations_held.ensures))
