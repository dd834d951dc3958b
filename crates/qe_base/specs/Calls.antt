-- Calls of one kind, of which some are to fail.
use Rattle.std.specs.Prelude.{◌≡◌, ◌↔◌, ℕ, ◌+◌, ◌-◌, ◌^◌, min, Bool, true, ◌&&◌, ◌==◌, nat_lt, List, if◌then◌else◌}
use Rattle.std.specs.List.{list_any}
use Rattle.qe_base.specs.declared.outside.calls.Calls.{Calls}
use Rattle.qe_base.specs.Causes.{Faults}

-- one more, up to the last value of 64 bits
abbrev pub one_more : ℕ → ℕ
one_more count = min (count + 1) (2 ^ 64 - 1)

-- none was made yet
abbrev pub no_calls : List ℕ → Calls
no_calls failing = record { failing = failing; made = 0; faults = 0 }

-- The next call is to fail. Calls are numbered from 1, and one beyond 2 ^ 64 - 1 has no number.
abbrev pub fails_next : Calls → Bool
fails_next calls = nat_lt calls.made (2 ^ 64 - 1) && list_any (λ number. number == calls.made + 1) calls.failing

-- some later call is to fail
abbrev pub may_fail : Calls → Bool
may_fail calls = list_any (nat_lt calls.made) calls.failing

abbrev pub faults_of : Calls → Faults
faults_of calls = record { count = calls.faults; may_fail = may_fail calls }

abbrev pub with_call : Calls → Calls
with_call calls = record calls { made = one_more calls.made }

abbrev pub with_fault : Calls → Calls
with_fault calls = record calls { faults = one_more calls.faults }

-- one call more, and one fault more where it failed
abbrev pub after_call : Calls → Calls
after_call calls = if fails_next calls then with_fault (with_call calls) else with_call calls

-- the next call was made, and failed exactly where it was to
pub record MakesCall (before after : Calls) (failed : Type 0) : Type 0 where
  pub exactly : failed ↔ (fails_next before ≡ true)
  pub counted : after ≡ after_call before
