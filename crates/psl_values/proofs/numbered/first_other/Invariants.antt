use Rattle.std.proofs.Common.{◌≡◌, ◌==◌, List, ℕ, Option, not, drop, Bor}
use Rattle.std.specs.Prelude.{option_map}
use Rattle.std.specs.List.{find}
use Rattle.psl_rules.specs.Relations.{End}
use Rattle.psl_values.proofs.numbered.first_other.Given as goal

abbrev pub invariant-loop-number : goal.invariant-loop-number
invariant-loop-number l =
    let place : List (ℕ × Bor End) → Option ℕ = λ group. option_map (λ one. one.0) (find (λ one. not (one.1.now.number == l.end.number)) group) in
    place (drop l.number-index l.group) ≡ place l.group
