-- How a command ends: the program's status, the line that is printed, and whether the host failed.
use Rattle.std.specs.Prelude.{◌≡◌, ℕ, ◌<◌, List, [], ◌++◌, length, take, Bool, true, false, codes, decimal}
use Rattle.qe_base.specs.Causes.{CountsFaults, HasCause}
use Rattle.qe_base.specs.Outside.{Seen, OnlyWrote}
use Rattle.qe_cli.specs.Refused.{refusal_line}
use Rattle.qe_cli.specs.declared.End.{End}
use Rattle.qe_cli.specs.declared.End.TheVariants as end
use Rattle.qe_node.specs.Port.{Appends}
use Rattle.qe_node.specs.declared.LinesEnd.{LinesEnd}
use Rattle.qe_node.specs.declared.LinesEnd.TheVariants as lines

-- the line of a connector that couldn't be attached, with its counts of faults before and after
abbrev pub fault_line : ℕ → ℕ → List ℕ
fault_line first last = codes "connector failed " ++ (decimal first ++ (codes " " ++ (decimal last ++ codes "\n")))

-- the line that is printed at an end
abbrev pub line_of : End → List ℕ
line_of end.Done = []
line_of end.Usage = codes "usage\n"
line_of (end.Refused refusal) = refusal_line refusal
line_of end.FetchFault = codes "fault fetch\n"
line_of end.ReadFault = codes "fault read\n"
line_of end.WriteFault = []
line_of end.Memory = codes "memory\n"
line_of (end.ConnectorFault first last) = fault_line first last
line_of end.LayoutDiffers = codes "layout differs\n"
line_of end.LongInput = codes "limit input\n"

-- the status of the program at an end
abbrev pub status_of : End → ℕ
status_of end.Done = 0
status_of end.Usage = 2
status_of (end.Refused refusal) = 3
status_of end.FetchFault = 4
status_of end.ReadFault = 4
status_of end.WriteFault = 4
status_of end.Memory = 5
status_of (end.ConnectorFault first last) = 6
status_of end.LayoutDiffers = 6
status_of end.LongInput = 7

-- the line of an end that needs memory to be made
abbrev pub has_made_line : End → Bool
has_made_line (end.Refused refusal) = true
has_made_line (end.ConnectorFault first last) = true
has_made_line _ = false

-- how a run ends whose lines ended so
abbrev pub end_from : LinesEnd → End
end_from lines.Done = end.Done
end_from lines.LongInput = end.LongInput
end_from lines.ReadFault = end.ReadFault
end_from lines.WriteFault = end.WriteFault
end_from lines.Memory = end.Memory

abbrev pub IsFetchFault : End → Type 0
IsFetchFault end.FetchFault = Unit {0}
IsFetchFault _ = ⊥

abbrev pub IsReadFault : End → Type 0
IsReadFault end.ReadFault = Unit {0}
IsReadFault _ = ⊥

abbrev pub IsWriteFault : End → Type 0
IsWriteFault end.WriteFault = Unit {0}
IsWriteFault _ = ⊥

-- Of the host's faults those of its fetches rose just where the end says so, and likewise those of its reads and of
-- its writes. What may not fail goes on not to.
pub record EndsFor (e : End) (before after : Seen) : Type 0 where
  pub fetch : CountsFaults before.fetches.count after.fetches.count (IsFetchFault e)
  pub read : HasCause before.reads after.reads (IsReadFault e)
  pub write : HasCause before.writes after.writes (IsWriteFault e)
  pub sure : before.fetches.may_fail ≡ false → after.fetches.may_fail ≡ false

-- A line was printed, or its front where a write failed.
pub record Prints (line : List ℕ) (before after : Seen) : Type 0 where
  pub count : ℕ
  pub written : Appends before after (take count line)
  pub cause : HasCause before.writes after.writes (count < length line)
  pub others : OnlyWrote before after
