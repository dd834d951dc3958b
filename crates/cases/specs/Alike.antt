-- When what came is what must come.
use Rattle.std.specs.Prelude.{◌≡◌}
use Rattle.cases.specs.declared.case.Outcome.{Outcome}

-- the same status, the same bytes of output, and the same rows and counters told
pub record AreAlike (wanted got : Outcome) : Type 0 where
  pub status : wanted.status ≡ got.status
  pub output : wanted.output.items ≡ got.output.items
  pub told : wanted.told.items ≡ got.told.items
