use Rattle.std.proofs.Common.{ap, ◌∙◌, filter, rules}
use Rattle.std.proofs.lemmas.Fn.{filter_same}
use Rattle.std.specs.Ordering.{is_gt}
use Rattle.qe_schema.specs.Columns.{values_cmp}
use Rattle.qe_schema.specs.Tables.{id_of}
use Rattle.qe_plain.proofs.rows.rows_behind.Goals as goal

pub returns : goal.returns
returns c =
    c.from_vec.ensures
    ∙ filter_same _ (λ row. is_gt (values_cmp (id_of c.args.shape.now row) c.args.id.now.values)) _ (λ x b f' k. search rules) _ _ c.retain.ensures.filtered
    ∙ ap (filter (λ row. is_gt (values_cmp (id_of c.args.shape.now row) c.args.id.now.values))) c.in_ok-found.ensures
