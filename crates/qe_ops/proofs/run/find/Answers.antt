use Rattle.std.proofs.Common.{◌≡◌, true, Ok, [], ◌∷◌, sym, ap, subst, ◌∙◌}
use Rattle.qe_base.specs.declared.schema.Table.{Table}
use Rattle.qe_base.specs.declared.value.Row.{Row}
use Rattle.qe_view.specs.Right.{can_load}
use Rattle.qe_base.specs.Schemas.{Schema}
use Rattle.qe_base.specs.declared.answer.Answer as answer
use Rattle.qe_base.specs.declared.answer.Rule.TheVariants as rule
use Rattle.qe_reading.specs.Read.{missing}
use Rattle.qe_schema.specs.Tables.{table_at}
use Rattle.qe_ops.proofs.Carrying.{found_carries, absent_carries}
use Rattle.qe_ops.proofs.Fitting.{unique_loads, row_asked}
use Rattle.qe_ops.proofs.FindLaws.{answered_for, columns_of_row}
use Rattle.qe_ops.proofs.run.find.Goals as goal

pub load-requires-clause-can : goal.load-requires-clause-can
load-requires-clause-can g c =
    subst (λ (s : Schema). can_load s c.args.table.0 c.key_columns-columns.result.now (c.in_ok-key.key ∷ []) ≡ true) (sym c.requires.schema)
    (unique_loads c.args.schema.now c.args.table c.args.at.now c.args.strict c.args.pick.now c.table_of-model.result.now c.key_columns-columns.result.now c.in_ok-key.key.values c.requires.fits c.table_of-model.ensures.table c.table_of-model.ensures.keys c.key_columns-columns.ensures
    (ap (λ (row : Row). row.values) c.in_ok-key.ensures))

pub returns-in_ok-shape-in-Some-clause-carries : goal.returns-in_ok-shape-in-Some-clause-carries
returns-in_ok-shape-in-Some-clause-carries g c = λ outside.
    let asked = row_asked (g.V.View.seen c.args.view.now).now c.args.schema.now c.args.table c.args.at.now c.args.strict c.args.pick.now c.table_of-model.result.now c.key_columns-columns.result.now c.in_ok-key.key.values c.in_ok-row.field-0 c.requires.fits c.table_of-model.ensures.table
    c.key_columns-columns.ensures (ap (λ (row : Row). row.values) c.in_ok-key.ensures) c.in_ok-row.ensures.row in
    found_carries (g.V.View.seen c.args.view.now) (g.V.View.seen c.load.new.view) c.args.schema.now c.args.table c.args.at.now c.args.strict c.args.pick.now outside c.in_ok-row.field-0 c.in_ok-shape-in-Some.field-0 c.requires.carried c.in_ok-row.ensures.same asked
    (ap (answered_for (table_at c.args.schema.now c.args.table.0) c.args.table.0 c.args.strict c.args.pick.now) c.in-Some.is ∙ ap Ok (ap (λ (model : Table). columns_of_row model c.args.pick.now c.in-Some.row) (sym c.table_of-model.ensures.table) ∙ sym c.in_ok-shape-in-Some.ensures))

pub returns-in-None-clause-carries : goal.returns-in-None-clause-carries
returns-in-None-clause-carries g c = λ outside.
    let asked = row_asked (g.V.View.seen c.args.view.now).now c.args.schema.now c.args.table c.args.at.now c.args.strict c.args.pick.now c.table_of-model.result.now c.key_columns-columns.result.now c.in_ok-key.key.values c.in_ok-row.field-0 c.requires.fits c.table_of-model.ensures.table
    c.key_columns-columns.ensures (ap (λ (row : Row). row.values) c.in_ok-key.ensures) c.in_ok-row.ensures.row in
    absent_carries (g.V.View.seen c.args.view.now) (g.V.View.seen c.load.new.view) c.args.schema.now c.args.table c.args.at.now c.args.strict c.args.pick.now outside c.in_ok-row.field-0 (rule.Absent c.args.table) c.requires.carried c.in_ok-row.ensures.same asked
    (ap (answered_for (table_at c.args.schema.now c.args.table.0) c.args.table.0 c.args.strict c.args.pick.now) c.in-None.is ∙ ap (missing c.args.table.0) c.if-strict.true)

pub returns-in-None-2-clause-carries : goal.returns-in-None-2-clause-carries
returns-in-None-2-clause-carries g c = λ outside.
    let asked = row_asked (g.V.View.seen c.args.view.now).now c.args.schema.now c.args.table c.args.at.now c.args.strict c.args.pick.now c.table_of-model.result.now c.key_columns-columns.result.now c.in_ok-key.key.values c.in_ok-row.field-0 c.requires.fits c.table_of-model.ensures.table
    c.key_columns-columns.ensures (ap (λ (row : Row). row.values) c.in_ok-key.ensures) c.in_ok-row.ensures.row in
    found_carries (g.V.View.seen c.args.view.now) (g.V.View.seen c.load.new.view) c.args.schema.now c.args.table c.args.at.now c.args.strict c.args.pick.now outside c.in_ok-row.field-0 answer.Null c.requires.carried c.in_ok-row.ensures.same asked
    (ap (answered_for (table_at c.args.schema.now c.args.table.0) c.args.table.0 c.args.strict c.args.pick.now) c.in-None.is ∙ ap (missing c.args.table.0) c.if-strict.false)
