-- When something outside may answer that it failed.
use Rattle.std.specs.Prelude.{◌≡◌, ℕ, ◌+◌, ◌-◌, ◌^◌, ◌≤◌, min, Bool, false}

-- how often calls of a kind have failed, and whether one may
pub record Faults : Type 0 where
  pub count : ℕ
  pub may_fail : Bool

-- the count rose, or stands at the last value that it can have
abbrev pub Rose : ℕ → ℕ → Type 0
Rose before now = min (before + 1) (2 ^ 64 - 1) ≤ now

-- A count of faults never falls, and rises only in a call that fails; a call fails only where it rose.
pub record CountsFaults (before now : ℕ) (failed : Type 0) : Type 0 where
  pub later : before ≤ now
  pub rose : failed → Rose before now
  pub still : (failed → ⊥) → now ≡ before

-- Besides, what may not fail never does, and goes on not to.
pub record HasCause (before now : Faults) (failed : Type 0) : Type 0 where
  pub counted : CountsFaults before.count now.count failed
  pub never : before.may_fail ≡ false → (failed → ⊥) × (now ≡ before)
