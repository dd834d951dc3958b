use Rattle.std.proofs.Common.{ap, ◌∙◌, List, ℕ}
use Rattle.psl_rules.specs.Updates.{Step, leads}
use Rattle.psl_relations.proofs.updates.is_on_cycle.Goals as goal

pub returns : goal.returns
returns c =
    c.contains.ensures ∙ c.in_ok-reached.ensures c.from.result.now ∙ ap (λ (steps : List Step). leads steps c.to.result.now c.from.result.now) c.outgoing.ensures
    ∙ ap (λ (text : List ℕ). leads c.args.ranked.now text c.from.result.now) c.to.ensures ∙ ap (leads c.args.ranked.now c.args.step.now.to) c.from.ensures
