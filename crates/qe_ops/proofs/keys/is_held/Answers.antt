use Rattle.std.proofs.Common.{sym, ap, ◌∙◌}
use Rattle.qe_schema.specs.Columns.{has_null, at_columns}
use Rattle.qe_ops.proofs.Keyed.{null_unheld, can_load_own, held_by}
use Rattle.qe_ops.proofs.keys.is_held.Goals as goal

pub returns-then-has_null-clause-held : goal.returns-then-has_null-clause-held
returns-then-has_null-clause-held g c =
    null_unheld (g.V.View.seen c.args.view.now).now c.args.table.0 c.args.key.now.columns c.args.row.now c.in_ok-values.values.values (c.in_ok-values.ensures ∙ ap (λ columns. at_columns columns c.args.row.now) c.as_slice-columns.ensures)
    (sym (ap has_null c.values.ensures) ∙ sym c.has_null.ensures ∙ c.if-has_null.true)

pub load-requires-clause-can : goal.load-requires-clause-can
load-requires-clause-can g c =
    can_load_own (g.V.View.seen c.args.view.now).schema c.args.table.0 c.args.key.now c.args.row.now c.as_slice-columns.result.now c.in_ok-values.values.values c.requires.right c.requires.key c.as_slice-columns.ensures
    (c.in_ok-values.ensures ∙ ap (λ columns. at_columns columns c.args.row.now) c.as_slice-columns.ensures) (sym (ap has_null c.values.ensures) ∙ sym c.has_null.ensures ∙ c.if-has_null.false)

pub returns-clause-held : goal.returns-clause-held
returns-clause-held g c =
    held_by (g.V.View.seen c.args.view.now).now c.args.table.0 c.args.key.now.columns c.args.row.now c.as_slice-columns.result.now c.in_ok-values.values.values c.in_ok-load.field-0 c.is_some.result c.as_slice-columns.ensures
    (c.in_ok-values.ensures ∙ ap (λ columns. at_columns columns c.args.row.now) c.as_slice-columns.ensures) (sym (ap has_null c.values.ensures) ∙ sym c.has_null.ensures ∙ c.if-has_null.false) c.is_some.ensures c.in_ok-load.ensures.row
