-- Numbers of models that never fall along steps.
use Rattle.std.specs.Prelude.{ℕ, Bool, nat_le, unwrap_or, bytes_eq}
use Rattle.std.specs.Borrow.{Bor}
use Rattle.std.specs.HashMap.{HashMap, get_by}
use Rattle.psl_rules.specs.Parts.{Spelling}
use Rattle.psl_rules.specs.Updates.{Step}

-- the number of a model, and 0 where it has none
abbrev pub number_of : {S : Type 0} → HashMap (Bor Spelling) ℕ S → Spelling → ℕ
number_of numbers model = unwrap_or (get_by (λ key. bytes_eq model key.now) numbers) 0

-- the step leads to no lower number
abbrev pub ascends : {S : Type 0} → HashMap (Bor Spelling) ℕ S → Step → Bool
ascends numbers step = nat_le (number_of numbers step.from) (number_of numbers step.to)
