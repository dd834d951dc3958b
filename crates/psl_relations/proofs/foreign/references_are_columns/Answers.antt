use Rattle.std.proofs.Common.{◌≡◌, ◌∙◌, ap, subst, map, filter, Bor}
use Rattle.std.specs.Prelude.{IfOk}
use Rattle.psl_text.specs.declared.tree.Tree.{Tree}
use Rattle.psl_rules.specs.Parts.{first, failing, models}
use Rattle.psl_rules.specs.Relations.{End, end_place, has_fields}
use Rattle.psl_rules.specs.Foreign.{names_columns}
use Rattle.psl_parts.proofs.Held.{found_among}
use Rattle.psl_relations.proofs.foreign.references_are_columns.Goals as goal

pub returns : goal.returns
returns c =
    let tree : Tree = c.args.models.now in
    found_among (names_columns tree) _ _ _ _ c.first_without_columns.result (ap models c.in_ok-targets.ensures)
    (ap (map (λ (end : Bor End). end.now)) c.as_slice-2.ensures.value ∙ c.in_ok-held.ensures ∙ ap (filter has_fields) (c.as_slice.ensures.value ∙ c.in_ok-ends.ensures))
    (subst (λ (one : Tree). IfOk c.first_without_columns.result (λ found. found ≡ first (failing (names_columns one (models c.in_ok-targets.targets)) end_place (map (λ (end : Bor End). end.now) c.as_slice-2.result.now)))) c.types.ensures
    c.first_without_columns.ensures)
