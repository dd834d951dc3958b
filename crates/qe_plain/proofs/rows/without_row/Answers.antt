use Rattle.std.proofs.Common.{ap, ◌∙◌, filter, not, rules}
use Rattle.std.proofs.lemmas.Fn.{filter_same}
use Rattle.qe_schema.specs.Columns.{are_same}
use Rattle.qe_schema.specs.Tables.{id_of}
use Rattle.qe_plain.proofs.rows.without_row.Goals as goal

pub returns : goal.returns
returns c =
    c.from_vec.ensures
    ∙ filter_same _ (λ row. not (are_same (id_of c.args.shape.now row) c.args.id.now.values)) _ (λ x b f' k. search rules) _ _ c.retain.ensures.filtered
    ∙ ap (filter (λ row. not (are_same (id_of c.args.shape.now row) c.args.id.now.values))) c.in_ok-found.ensures
