use Rattle.std.proofs.Common.{◌≡◌, ℕ, List, drop}
use Rattle.psl_rules.specs.Parts.{first, earlier}
use Rattle.psl_keys.proofs.keys.first_of.Given as goal

abbrev pub invariant-loop-at : goal.invariant-loop-at
invariant-loop-at l = earlier l.found (first (drop l.at-index l.places)) ≡ first l.places
