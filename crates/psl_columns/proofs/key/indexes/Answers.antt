use Rattle.std.proofs.Common.{◌≡◌, map, Bor, List, ℕ, ap, ◌∙◌, subst}
use Rattle.std.specs.Prelude.{IfOk}
use Rattle.psl_rules.specs.Parts.{block_attributes}
use Rattle.psl_columns.specs.Numbered.{indexes_over}
use Rattle.psl_columns.proofs.key.indexes.Goals as goal

pub returns : goal.returns
returns c =
    subst (λ columns. IfOk c.indexes_over.result (λ indexes. indexes ≡ indexes_over columns (block_attributes c.args.model.now)))
    (ap (map (λ (name : Bor (List ℕ)). name.now)) c.as_slice.ensures.value ∙ c.in_ok-columns.ensures) c.indexes_over.ensures
