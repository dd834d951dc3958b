use Rattle.std.proofs.Common.{ap, ◌∙◌, filter, not, rules}
use Rattle.std.proofs.lemmas.Fn.{filter_same}
use Rattle.qe_schema.specs.Pairs.{is_pair}
use Rattle.qe_plain.proofs.pairs.without_pair.Goals as goal

pub returns : goal.returns
returns c =
    c.from_vec.ensures
    ∙ filter_same _ (λ other. not (is_pair (c.args.a.now, c.args.b.now) other)) _ (λ x b f' k. search rules) _ _ c.retain.ensures.filtered
    ∙ ap (filter (λ other. not (is_pair (c.args.a.now, c.args.b.now) other))) c.in_ok-found.ensures
