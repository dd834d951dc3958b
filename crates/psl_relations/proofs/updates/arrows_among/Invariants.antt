use Rattle.std.proofs.Common.{◌≡◌, ◌++◌, map, filter, drop}
use Rattle.psl_rules.specs.Relations.{has_fields}
use Rattle.psl_rules.specs.Updates.{is_arrow}
use Rattle.psl_relations.proofs.updates.arrows_among.Given as goal

abbrev pub invariant-loop-end : goal.invariant-loop-end
invariant-loop-end l =
    map (λ arrow. arrow.now) l.arrows.items ++ filter (is_arrow (filter has_fields l.referred)) (map (λ end. end.now) (drop l.end-index l.held))
    ≡ filter (is_arrow (filter has_fields l.referred)) (map (λ end. end.now) l.held)
