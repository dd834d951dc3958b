use Rattle.std.proofs.Common.{ap, ◌∙◌, filter, rules}
use Rattle.std.proofs.lemmas.Fn.{filter_same}
use Rattle.std.specs.Ordering.{is_lt}
use Rattle.qe_schema.specs.Pairs.{pair_cmp}
use Rattle.qe_plain.proofs.pairs.pairs_before.Goals as goal

pub returns : goal.returns
returns c =
    c.from_vec.ensures
    ∙ filter_same _ (λ other. is_lt (pair_cmp other (c.args.a.now, c.args.b.now))) _ (λ x b f' k. search rules) _ _ c.retain.ensures.filtered
    ∙ ap (filter (λ other. is_lt (pair_cmp other (c.args.a.now, c.args.b.now)))) c.in_ok-found.ensures
