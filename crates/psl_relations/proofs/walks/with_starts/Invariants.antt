use Rattle.std.proofs.Common.{◌≡◌, ◌++◌, List, ℕ, map, filter, drop, Bor}
use Rattle.psl_relations.specs.Back.{same_text}
use Rattle.psl_relations.specs.Walks.{leads_from}
use Rattle.psl_relations.proofs.walks.with_starts.Given as goal

abbrev pub invariant-loop-step : goal.invariant-loop-step
invariant-loop-step l =
    (model : Bor (List ℕ)) → map (λ one. one.1.now) (filter (λ one. same_text one.0 model) l.keyed.items) ++ filter (leads_from model.now) (drop l.step-index l.steps) ≡ filter (leads_from model.now) l.steps
