use Rattle.std.proofs.Common.{◌≡◌, ◌∙◌, List, ℕ, ap, sym}
use Rattle.psl_text.specs.declared.tree.Tree.{Tree}
use Rattle.psl_text.specs.declared.tree.Block.{Block}
use Rattle.psl_rules.specs.Parts.{first, earlier, failing, fields, block_attributes}
use Rattle.psl_rules.specs.Attributes.{is_over_columns, attribute_place, wrong_on_fields}
use Rattle.psl_parts.proofs.Firsts.{first_append}
use Rattle.psl_fields.proofs.standing.wrong_attribute.Goals as goal

pub returns : goal.returns
returns c =
    let tree = c.args.types.now in
    let model = c.args.model.now in
    let places : (Tree × Block) → List ℕ = λ columns. failing (is_over_columns columns.0 columns.1) attribute_place (block_attributes model) in
    c.earlier.ensures ∙ ap (λ r. earlier r c.in_ok-on_model.on_model) c.wrong_on_fields.ensures
    ∙ ap (earlier (first (wrong_on_fields tree (fields model)))) (c.in_ok-on_model.ensures ∙ ap (λ columns. first (places columns)) c.in_ok-columns.ensures)
    ∙ sym (first_append (wrong_on_fields tree (fields model)) (places (tree, model)))
