use Rattle.std.proofs.Common.{ap, ◌∙◌, filter, rules}
use Rattle.std.proofs.lemmas.Fn.{filter_same}
use Rattle.std.specs.Option.{option_copied}
use Rattle.qe_view.specs.After.{is_from}
use Rattle.qe_plain.proofs.rows.rows_from.Goals as goal

pub returns : goal.returns
returns c =
    filter_same _ (is_from c.args.shape.now (option_copied c.args.from) c.args.backward) _ (λ x b f' k. search rules) _ _ c.retain.ensures.filtered
    ∙ ap (filter (is_from c.args.shape.now (option_copied c.args.from) c.args.backward)) c.in_ok-found.ensures
