use Rattle.std.proofs.Common.{rules, ◌∙◌}
use Rattle.qe_scalars.proofs.Parsed.{read}
use Rattle.qe_scalars.proofs.number_text.big_in.Goals as goal

pub returns : goal.returns
returns c =
    c.ok.ensures.value ∙ read c.args.text.now c.parse.result (search rules) c.parse.ensures.value.0
