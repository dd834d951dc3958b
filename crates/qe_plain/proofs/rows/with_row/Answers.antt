use Rattle.std.proofs.Common.{◌≡◌, ap, ◌∙◌, [], ◌∷◌, ◌++◌, filter}
use Rattle.std.specs.Ordering.{is_lt, is_gt}
use Rattle.qe_schema.specs.Columns.{at_columns, values_cmp}
use Rattle.qe_schema.specs.Tables.{id_of}
use Rattle.qe_plain.proofs.Joined.{joined}
use Rattle.qe_plain.proofs.rows.with_row.Goals as goal

pub returns : goal.returns
returns c =
    let shape = c.args.shape.now in
    let row = c.args.row.now in
    let rows = c.args.rows.now in
    let id : c.in_ok-id.id.values ≡ id_of shape row = c.in_ok-id.ensures ∙ ap (λ columns. at_columns columns row) c.id_columns.ensures in
    c.in_ok-append.ensures
    ∙ ap (λ l. l ++ c.in_ok-rows_behind.field-0) (c.in_ok-push.ensures.ok ∙ ap (λ r. c.in_ok-all.all ++ r ∷ []) c.in_ok-share.ensures)
    ∙ joined c.in_ok-all.all c.in_ok-rows_behind.field-0 row
    ∙ (λ i. c.in_ok-all.ensures i ++ row ∷ c.in_ok-rows_behind.ensures i)
    ∙ ap (λ values. filter (λ other. is_lt (values_cmp (id_of shape other) values)) rows ++ row ∷ filter (λ other. is_gt (values_cmp (id_of shape other) values)) rows) id
