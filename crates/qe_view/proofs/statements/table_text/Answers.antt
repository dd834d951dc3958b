use Rattle.std.proofs.Common.{map, ap, ◌∙◌}
use Rattle.std.specs.Prelude.{codes, string_bytes}
use Rattle.qe_view.specs.LayoutText.{quoted, listed, table_text}
use Rattle.qe_view.proofs.Pieces.{between_two}
use Rattle.qe_view.proofs.statements.table_text.Goals as goal

pub returns : goal.returns
unfolding table_text
returns c =
    c.in_ok-format.ensures.ok
    ∙ between_two (codes "CREATE TABLE ") (codes " ") (codes " STRICT;\n")
    (c.in_ok-name.ensures ∙ ap quoted c.as_str.ensures.text)
    (c.in_ok-listed.ensures ∙ ap listed (ap (map string_bytes) c.as_slice.ensures.value ∙ c.in_ok-parts.ensures))
