-- What is seen of sources, sinks and hosts, and what their calls do to that.
use Rattle.std.specs.Prelude.{◌≡◌, ◌↔◌, ℕ, ◌+◌, ◌<◌, ◌≤◌, false, List, [], ◌∷◌, ◌++◌, length, take, Option, Some, None, option_map, Result, IfOk, OnErr, IsErr, IsErrOf, IfSome, IsSomeAnd, bytes_eq, find}
use Rattle.qe_base.specs.Causes.{Faults, CountsFaults, HasCause}
use Rattle.qe_base.specs.declared.outside.Failed.{Failed}
use Rattle.qe_base.specs.declared.outside.FetchFault.{FetchFault}
use Rattle.qe_base.specs.declared.outside.FetchFault.TheVariants as fault

-- the files of a host, by name and content
abbrev pub Files : Type 0
Files = List (List ℕ × List ℕ)

-- the content of the first file of this name
abbrev pub file_named : List ℕ → Files → Option (List ℕ)
file_named name files = option_map (λ file. file.1) (find (λ file. bytes_eq file.0 name) files)

-- What a read begins with: the bytes that are left, and those that were taken.
pub record Turn : Type 0 where
  pub left : Option (List ℕ)
  pub taken : Option (List ℕ)

-- All that is seen of something outside, each where it tells: the bytes that are left to read, those that were taken, the
-- files, what each read so far began with, and the names of the files that were asked for, both in order; and the faults
-- of its reads, writes and fetches.
pub record Seen : Type 0 where
  pub left : Option (List ℕ)
  pub taken : Option (List ℕ)
  pub files : Option Files
  pub turns : Option (List Turn)
  pub asked : Option (List (List ℕ))
  pub reads : Faults
  pub writes : Faults
  pub fetches : Faults

-- what a read that comes now begins with
abbrev pub turn_now : Seen → Turn
turn_now seen = record { left = seen.left; taken = seen.taken }

-- where the turns are told after a read, they were told before it, and are one more: what it began with
abbrev pub TakesTurn : Seen → Seen → Type 0
TakesTurn before after = IfSome after.turns (λ turns. IsSomeAnd before.turns (λ earlier. turns ≡ earlier ++ turn_now before ∷ []))

-- where the names asked for are told after a fetch, they were told before it, and are one more: this one
abbrev pub AsksFor : List ℕ → Seen → Seen → Type 0
AsksFor name before after = IfSome after.asked (λ names. IsSomeAnd before.asked (λ earlier. names ≡ earlier ++ name ∷ []))

-- all but the bytes that come in, and what each read began with, is as it was
abbrev pub OnlyRead : Seen → Seen → Type 0
OnlyRead before after = after ≡ record before { left = after.left; turns = after.turns; reads = after.reads }

-- all but the bytes that go out is as it was, also the turns and the names asked for
abbrev pub OnlyWrote : Seen → Seen → Type 0
OnlyWrote before after = after ≡ record before { taken = after.taken; writes = after.writes }

-- all but the names asked for and the count of fetches is as it was, also the turns
abbrev pub OnlyFetched : Seen → Seen → Type 0
OnlyFetched before after = after ≡ record before { asked = after.asked; fetches = after.fetches }

-- nothing of it fails but a fetch of a file that isn't there
pub record IsSteady (seen : Seen) : Type 0 where
  pub reads : seen.reads.may_fail ≡ false
  pub writes : seen.writes.may_fail ≡ false
  pub fetches : seen.fetches.may_fail ≡ false

-- Bytes moved from what was left into the front of the piece, none only where nothing was left.
-- After a refusal as much is left as before. A source that tells what is left told it before. The read is one turn more.
pub record Reads (before after : Seen) (piece : List ℕ) (result : Result ℕ Failed) : Type 0 where
  pub within : IfOk result (λ count. count ≤ length piece)
  pub bytes : IfOk result (λ count. IfSome after.left (λ rest. before.left ≡ Some (take count piece ++ rest)))
  pub end : IfOk result (λ count. 0 < length piece → IfSome before.left (λ left. (count ≡ 0) ↔ (left ≡ [])))
  pub failed : OnErr result (after.left ≡ before.left)
  pub turn : TakesTurn before after
  pub cause : HasCause before.reads after.reads (IsErr result)
  pub others : OnlyRead before after

-- The front of the piece was taken, at least one byte of it. After a refusal nothing was. A sink
-- that tells what it took told it before.
pub record Writes (before after : Seen) (piece : List ℕ) (result : Result ℕ Failed) : Type 0 where
  pub within : IfOk result (λ count. count ≤ length piece)
  pub some : IfOk result (λ count. 0 < length piece → 0 < count)
  pub bytes : IfOk result (λ count. IfSome after.taken (λ taken. IsSomeAnd before.taken (λ old. taken ≡ old ++ take count piece)))
  pub failed : OnErr result (after.taken ≡ before.taken)
  pub cause : HasCause before.writes after.writes (IsErr result)
  pub others : OnlyWrote before after

-- The file's bytes, one more than asked for at the most. Where no fetch of a file that is there may fail, one that
-- failed was of a file that isn't.
pub record Fetches (before after : Seen) (name : List ℕ) (most : ℕ) (result : Result (List ℕ) FetchFault) : Type 0 where
  pub bytes : IfOk result (λ bytes. IfSome before.files (λ all. IsSomeAnd (file_named name all) (λ content. bytes ≡ take (most + 1) content)))
  pub missing : IsErrOf result fault.Failed → before.fetches.may_fail ≡ false → IfSome before.files (λ all. file_named name all ≡ None)
  pub counted : CountsFaults before.fetches.count after.fetches.count (IsErrOf result fault.Failed)
  pub sure : before.fetches.may_fail ≡ false → after.fetches.may_fail ≡ false
  pub asks : AsksFor name before after
  pub others : OnlyFetched before after
