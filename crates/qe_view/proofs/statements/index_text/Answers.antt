use Rattle.std.proofs.Common.{ap, ◌∙◌}
use Rattle.std.specs.Prelude.{codes}
use Rattle.qe_view.specs.LayoutText.{quoted, names_text, index_name, index_text}
use Rattle.qe_view.proofs.Pieces.{between_three}
use Rattle.qe_view.proofs.statements.index_text.Goals as goal

pub returns : goal.returns
unfolding index_text
returns c =
    let index = c.as_str.ensures.value ∙ c.in_ok-index_name.ensures ∙ ap (λ stored. index_name stored c.args.number) c.as_str-stored.ensures.text in
    let names = c.in_ok-names.ensures ∙ ap (λ columns. names_text columns c.args.columns.now) c.as_slice.ensures in
    c.in_ok-format.ensures.ok
    ∙ between_three (codes "CREATE INDEX ") (codes " ON ") (codes " ") (codes ";\n")
    (c.in_ok-index.ensures ∙ ap quoted index)
    (c.in_ok-name.ensures ∙ ap quoted c.as_str-stored.ensures.text)
    names
