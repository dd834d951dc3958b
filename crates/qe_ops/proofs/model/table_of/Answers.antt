use Rattle.std.proofs.Common.{sym, ap, ◌∙◌}
use Rattle.std.specs.Option.{option_copied}
use Rattle.qe_schema.proofs.Members.{in_place}
use Rattle.qe_schema.proofs.Known.{columns_within}
use Rattle.qe_ops.proofs.model.table_of.Goals as goal

pub returns-clause-few : goal.returns-clause-few
returns-clause-few c = columns_within c.args.schema.now c.is_sound.ensures c.args.table.0 c.unwrap.result.now (sym (ap option_copied (sym c.unwrap.ensures) ∙ c.table.ensures))

pub returns-clause-keys : goal.returns-clause-keys
returns-clause-keys c =
    c.is_sound.ensures.keys c.unwrap.result.now (in_place c.args.schema.now.tables c.args.table.0 c.unwrap.result.now (sym (ap option_copied (sym c.unwrap.ensures) ∙ c.table.ensures)))
