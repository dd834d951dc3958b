use Rattle.std.proofs.Common.{ap, ◌∙◌, filter, rules}
use Rattle.std.proofs.lemmas.Fn.{filter_same}
use Rattle.qe_schema.specs.Tests.{passes}
use Rattle.qe_plain.proofs.tables.PlainTables.passing.Goals as goal

pub returns : goal.returns
returns c =
    c.from_vec.ensures
    ∙ filter_same _ (passes c.args.tests.now) _ (λ x b f' k. search rules) _ _ c.retain.ensures.filtered
    ∙ ap (filter (passes c.args.tests.now)) c.in_ok-found.ensures
