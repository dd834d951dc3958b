use Rattle.std.proofs.Common.{◌≡◌, ◌||◌, List, ℕ, map, drop}
use Rattle.std.specs.Prelude.{bytes_eq}
use Rattle.std.specs.List.{list_any}
use Rattle.qe_text.specs.Lists.{is_among}
use Rattle.psl_relations.specs.Walks.{Begins}
use Rattle.psl_relations.proofs.walks.follow.Given as goal

abbrev pub invariant-loop-step : goal.invariant-loop-step
invariant-loop-step l =
    ((name : List ℕ) → (list_any (λ key. bytes_eq name key.now) l.reached.keys || is_among name (map (λ step. step.to) (map (λ step. step.now) (drop l.step-index l.steps))))
    ≡ (list_any (λ key. bytes_eq name key.now) l.fn.reached.keys || is_among name (map (λ step. step.to) (map (λ step. step.now) l.steps))))
    × Begins l.fn.reached.keys l.reached.keys
