use Rattle.std.proofs.Common.{ap, ◌∙◌, filter, rules}
use Rattle.std.proofs.lemmas.Fn.{filter_same}
use Rattle.qe_view.specs.After.{is_wanted}
use Rattle.qe_plain.proofs.tables.PlainTables.wanted.Goals as goal

pub returns : goal.returns
returns c =
    c.from_vec.ensures
    ∙ filter_same _ (is_wanted c.args.columns.now c.args.keys.now) _ (λ x b f' k. search rules) _ _ c.retain.ensures.filtered
    ∙ ap (filter (is_wanted c.args.columns.now c.args.keys.now)) c.in_ok-found.ensures
