use Rattle.std.proofs.Common.{rules, ap, ◌∙◌, ◌<◌, ◌≤◌, ◌||◌, ◌++◌, ◌∷◌, [], List, map, length, cond}
use Rattle.qe_text.specs.Lists.{is_among}
use Rattle.psl_rules.specs.Updates.{Step}
use Rattle.psl_parts.proofs.Lookups.{has}
use Rattle.psl_relations.proofs.Walked.{begun, walked_on, walked}
use Rattle.psl_relations.proofs.walks.reached_from.Goals as goal

pub models-init : goal.models-init
models-init c =
    begun c.args.outgoing.now c.args.from c.insert.new.self.keys (c.in_ok-insert.ensures.keys ∙ ap (λ keys. cond (has c.args.from.now keys) keys (keys ++ c.args.from ∷ [])) c.new-reached.ensures.empty)

pub models-preserved : goal.models-preserved
models-preserved c =
    let within : c.models.next < length c.models.reached.keys = search rules in
    walked_on c.args.outgoing.now c.args.from.now c.models.reached.keys c.follow.new.reached.keys c.models.next c.index-model.result.now within (search rules) c.in_ok-follow.ensures.begins
    (λ x. c.in_ok-follow.ensures.holds x ∙ ap (λ (steps : List Step). has x c.models.reached.keys || is_among x (map (λ step. step.to) steps)) c.after.ensures) c.models.invariant

pub returns : goal.returns
returns c =
    let past : length c.models.reached.keys ≤ c.models.next = search rules in
    walked c.args.outgoing.now c.args.from.now c.models.reached.keys c.models.next past c.models.invariant
