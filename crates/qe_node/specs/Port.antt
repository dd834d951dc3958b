-- Whole pieces that are read from and written to something outside.
use Rattle.std.specs.Prelude.{◌≡◌, ℕ, ◌<◌, List, ◌++◌, length, take, Result, OnOk, OnErr, IsErr, IfSome, IsSomeAnd}
use Rattle.qe_base.specs.Causes.{HasCause}
use Rattle.qe_base.specs.Outside.{Seen, OnlyWrote}
use Rattle.qe_base.specs.declared.outside.Failed.{Failed}

-- the sink took these bytes more, where it tells
abbrev pub Appends : Seen → Seen → List ℕ → Type 0
Appends before after bytes = IfSome after.taken (λ all. IsSomeAnd before.taken (λ old. all ≡ old ++ bytes))

-- the sink took a front of these bytes more, and not all of them
abbrev pub AppendsPart : Seen → Seen → List ℕ → Type 0
AppendsPart before after bytes = (count : ℕ) × (count < length bytes) × Appends before after (take count bytes)

-- all but the bytes that come in and go out, and what each read began with, is as it was
abbrev pub OnlyMoved : Seen → Seen → Type 0
OnlyMoved before after = after ≡ record before { left = after.left; taken = after.taken; turns = after.turns; reads = after.reads; writes = after.writes }

-- Nothing but the bytes that go out has changed, and a write failed just where this holds.
pub record Wrote (before after : Seen) (failed : Type 0) : Type 0 where
  pub cause : HasCause before.writes after.writes failed
  pub others : OnlyWrote before after

-- The whole piece was written, or its front up to a fault.
pub record WritesAll (before after : Seen) (piece : List ℕ) (result : Result (Unit {0}) Failed) : Type 0 where
  pub ok : OnOk result (Appends before after piece)
  pub err : OnErr result (AppendsPart before after piece)
  pub wrote : Wrote before after (IsErr result)
