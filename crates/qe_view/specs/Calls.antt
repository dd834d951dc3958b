-- The numbers of the calls that a connector has had.
use Rattle.std.specs.Prelude.{◌≡◌, ◌⊎◌, ℕ, ◌+◌, ◌-◌, ◌^◌, ◌≤◌, min}

-- one more, up to what 64 bits hold
abbrev pub more : ℕ → ℕ
more count = min (count + 1) (2 ^ 64 - 1)

pub record CallCounts : Type 0 where
  pub loads : ℕ
  pub scans : ℕ
  pub pages : ℕ
  pub lasts : ℕ
  pub applies : ℕ

abbrev pub with_load : CallCounts → CallCounts
with_load calls = record calls { loads = more calls.loads }

abbrev pub with_scan : CallCounts → CallCounts
with_scan calls = record calls { scans = more calls.scans }

abbrev pub with_page : CallCounts → CallCounts
with_page calls = record calls { pages = more calls.pages }

abbrev pub with_last : CallCounts → CallCounts
with_last calls = record calls { lasts = more calls.lasts }

abbrev pub with_apply : CallCounts → CallCounts
with_apply calls = record calls { applies = more calls.applies }

-- no call, or one of this kind
abbrev pub AtMost : (CallCounts → CallCounts) → CallCounts → CallCounts → Type 0
AtMost one before after = (after ≡ before) ⊎ (after ≡ one before)

-- no more calls of each kind than these
pub record MakesAtMost (most before after : CallCounts) : Type 0 where
  pub loads : after.loads ≤ before.loads + most.loads
  pub scans : after.scans ≤ before.scans + most.scans
  pub pages : after.pages ≤ before.pages + most.pages
  pub lasts : after.lasts ≤ before.lasts + most.lasts
  pub applies : after.applies ≤ before.applies + most.applies

abbrev pub no_calls : CallCounts
no_calls = record { loads = 0; scans = 0; pages = 0; lasts = 0; applies = 0 }
