use Rattle.std.proofs.Common.{◌≡◌, [], ◌∷◌, map, drop}
use Rattle.psl_rules.specs.Keys.{is_within}
use Rattle.psl_keys.proofs.counters.are_all.Given as goal

abbrev pub invariant-loop-other : goal.invariant-loop-other
invariant-loop-other l = is_within (map (λ id. id.now) (drop l.other-index l.names)) (l.name ∷ []) ≡ is_within (map (λ id. id.now) l.names) (l.name ∷ [])
