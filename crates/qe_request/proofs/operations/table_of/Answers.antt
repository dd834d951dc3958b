use Rattle.std.proofs.Common.{sym, ap, ◌∙◌}
use Rattle.std.specs.Option.{option_copied}
use Rattle.qe_request.proofs.Few.{few_found}
use Rattle.qe_request.proofs.operations.table_of.Goals as goal

pub returns-clause-few : goal.returns-clause-few
returns-clause-few c = few_found c.args.schema.now c.args.id.0 c.unwrap.result.now c.is_sound.ensures (ap option_copied (sym c.unwrap.ensures) ∙ c.table.ensures)
