use Rattle.std.proofs.Common.{ap, sym, ◌∙◌, List, ℕ}
use Rattle.std.specs.List.{flat_map}
use Rattle.psl_text.specs.declared.tree.Name.{Name}
use Rattle.psl_text.specs.declared.tree.Tree.{Tree}
use Rattle.psl_rules.specs.Parts.{first, earlier, models}
use Rattle.psl_rules.specs.Stored.{wrongly_stored, stored_tables, stored_columns}
use Rattle.psl_parts.proofs.Firsts.{first_append}
use Rattle.psl_relations.proofs.stored.stored_names_are_distinct.Goals as goal

pub returns : goal.returns
returns c =
    let columns : Tree → List ℕ = λ tree. flat_map (λ model. wrongly_stored (stored_columns tree model)) (models tree) in
    let tables : List ℕ = wrongly_stored (stored_tables c.args.models.now) in
    c.earlier.ensures
    ∙ ap (λ found. earlier found c.in_ok-wrong_column.wrong_column) (c.in_ok-wrong_table.ensures ∙ ap (λ (names : List Name). first (wrongly_stored names)) (c.as_slice.ensures.value ∙ c.in_ok-tables.ensures))
    ∙ ap (earlier (first tables)) (c.in_ok-wrong_column.ensures ∙ ap (λ (tree : Tree). first (columns tree)) c.types.ensures) ∙ sym (first_append tables (columns c.args.models.now))
