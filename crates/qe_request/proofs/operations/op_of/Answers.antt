use Rattle.std.proofs.Common.{◌≡◌, true, false, None, sym, ap, ◌∙◌, rules}
use Rattle.std.specs.Prelude.{if◌then◌else◌}
use Rattle.std.proofs.lemmas.Result.{IfOk-weaker}
use Rattle.serde_json.specs.View.{view}
use Rattle.qe_base.specs.declared.schema.Table.{Table}
use Rattle.qe_schema.specs.Tables.{table_at}
use Rattle.qe_reading.specs.CarriedOut.{is_simple}
use Rattle.qe_forms.specs.Request.{op_by}
use Rattle.qe_request.proofs.Carried.{op_of_is}
use Rattle.qe_request.proofs.operations.op_of.Goals as goal

pub returns-then-not-is_simple : goal.returns-then-not-is_simple
returns-then-not-is_simple c =
    let schema = c.args.schema.now in
    let arguments = view c.args.arguments.now in
    let model : Table = c.table_of-table.result.now in
    let simple : is_simple model ≡ false = search rules in
    sym (op_of_is schema c.args.id c.args.action.now arguments ∙ ap (λ b. if b then op_by c.args.id (table_at schema c.args.id.0) c.args.action.now arguments else None) (ap is_simple (sym c.table_of-table.ensures.table) ∙ simple))

pub returns : goal.returns
returns c =
    let schema = c.args.schema.now in
    let arguments = view c.args.arguments.now in
    let model : Table = c.table_of-table.result.now in
    let simple : is_simple model ≡ true = search rules in
    IfOk-weaker c.op_by.result _ _
    (λ found is.
    is ∙ ap (λ (one : Table). op_by c.args.id one c.args.action.now arguments) c.table_of-table.ensures.table
    ∙ sym (op_of_is schema c.args.id c.args.action.now arguments ∙ ap (λ b. if b then op_by c.args.id (table_at schema c.args.id.0) c.args.action.now arguments else None) (ap is_simple (sym c.table_of-table.ensures.table) ∙ simple)))
    c.op_by.ensures
