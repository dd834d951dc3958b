-- Places that come too late to be the first.
use Rattle.std.specs.Prelude.{ℕ, Bool, false, nat_le, Option, Some, None}

-- what was found stands in front of this place, or at it
abbrev pub is_behind : Option ℕ → ℕ → Bool
is_behind None at = false
is_behind (Some found) at = nat_le found at
