use Rattle.std.proofs.Common.{◌≡◌, ◌++◌, List, ℕ, map, filter, drop, Bor}
use Rattle.psl_relations.specs.Back.{same_text}
use Rattle.psl_relations.specs.Called.{is_called}
use Rattle.psl_relations.proofs.targets.with_names.Given as goal

abbrev pub invariant-loop-model : goal.invariant-loop-model
invariant-loop-model l =
    (name : Bor (List ℕ)) → map (λ one. one.1.now) (filter (λ one. same_text one.0 name) l.named.items) ++ filter (is_called name.now) (drop l.model-index l.models)
    ≡ filter (is_called name.now) l.models
