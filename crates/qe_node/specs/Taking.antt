-- Taking the lines of some bytes.
use Rattle.std.specs.Prelude.{◌≡◌, ℕ, List, ◌++◌, Bool, true, false, not, ◌==◌, filter, IfSome, Some, Result, Ok, Err}
use Rattle.std.specs.List.{list_any}
use Rattle.qe_base.specs.Outside.{Seen}
use Rattle.qe_base.specs.Schemas.{Schema}
use Rattle.qe_history.specs.Exchange.{LineOutcome, ComeOf}
use Rattle.qe_history.specs.Lines.{cut, is_blank}
use Rattle.qe_node.specs.Run.{AllWritten, AtEachTurn, EndsWith, IsPrompt, LastCut}
use Rattle.qe_node.specs.Serving.{IsStood, Leads}
use Rattle.qe_base.specs.declared.outside.Failed.{Failed}
use Rattle.qe_node.specs.declared.LinesEnd.{LinesEnd}
use Rattle.qe_node.specs.declared.LinesEnd.TheVariants as ends
use Rattle.qe_node.specs.declared.take.Stop.{Stop}
use Rattle.qe_node.specs.declared.take.Stop.TheVariants as stop
use Rattle.qe_session.specs.declared.machine.Core.{Core}
use Rattle.qe_view.specs.Attached.{Connected}

abbrev pub has_newline : List ℕ → Bool
has_newline bytes = list_any (λ byte. byte == 10) bytes

-- the lines that aren't blank
abbrev pub filled : List (List ℕ) → List (List ℕ)
filled lines = filter (λ line. not (is_blank line)) lines

-- whether a stop cuts an answer short
abbrev pub cuts : Stop → Bool
cuts stop.Write = true
cuts stop.Memory = false

-- what was written of the outcomes' lines: all, or not all of the last
abbrev pub WroteLines : Bool → Schema → List LineOutcome → Seen → Seen → Type 0
WroteLines false schema outcomes before now = AllWritten schema outcomes before now
WroteLines true schema outcomes before now = LastCut schema outcomes before now

-- These lines were answered, the last of them not wholly where it is cut short.
pub record Takes (short : Bool) (schema : Schema) (lines : List (List ℕ)) (below after : Connected) (place next : ℕ) (before now : Seen) : Type 0 where
  pub outcomes : List LineOutcome
  pub come : ComeOf schema lines outcomes
  pub leads : Leads schema outcomes below place after next
  pub wrote : IsStood schema below place → WroteLines short schema outcomes before now

-- Whatever comes behind the bytes, their first lines were answered but the blank ones, and these bytes are pending.
pub record TakesWhole (schema : Schema) (bytes pending : List ℕ) (below after : Connected) (place next : ℕ) (before now : Seen) : Type 0 where
  pub pieces : List (List ℕ)
  pub cut_is : (later : List ℕ) → cut (bytes ++ later) ≡ pieces ++ cut (pending ++ later)
  pub takes : Takes false schema (filled pieces) below after place next before now

-- Whatever comes behind the bytes, some of their first lines were answered but the blank ones.
pub record TakesSome (short : Bool) (schema : Schema) (bytes : List ℕ) (below after : Connected) (place next : ℕ) (before now : Seen) : Type 0 where
  pub pieces : List (List ℕ)
  pub cut_is : (later : List ℕ) → (more : List (List ℕ)) × (cut (bytes ++ later) ≡ pieces ++ more)
  pub takes : Takes short schema (filled pieces) below after place next before now

-- the same of a core and something outside, by what is seen of them
abbrev pub TakesBy : {C P : Type 0} → (C → Connected) → (P → Seen) → Bool → Schema → List (List ℕ) → Core C → Core C → ℕ → ℕ → P → P → Type 0
TakesBy kept seen short schema lines core after place next port now = Takes short schema lines (kept core.view.below) (kept after.view.below) place next (seen port) (seen now)

abbrev pub WholeBy : {C P : Type 0} → (C → Connected) → (P → Seen) → Schema → List ℕ → List ℕ → Core C → Core C → ℕ → ℕ → P → P → Type 0
WholeBy kept seen schema bytes pending core after place next port now = TakesWhole schema bytes pending (kept core.view.below) (kept after.view.below) place next (seen port) (seen now)

abbrev pub SomeBy : {C P : Type 0} → (C → Connected) → (P → Seen) → Stop → Schema → List ℕ → Core C → Core C → ℕ → ℕ → P → P → Type 0
SomeBy kept seen why schema bytes core after place next port now = TakesSome (cuts why) schema bytes (kept core.view.below) (kept after.view.below) place next (seen port) (seen now)

-- A run behind the greeting: the bytes that were read, and the outcomes of the lines that were answered, each before the
-- next read.
pub record RunsOn (end : LinesEnd) (schema : Schema) (below after : Connected) (place next : ℕ) (before now : Seen) : Type 0 where
  pub read : List ℕ
  pub outcomes : List LineOutcome
  pub source : IfSome now.left (λ left. before.left ≡ Some (read ++ left))
  pub ends : IsStood schema below place → EndsWith end schema read outcomes before now
  pub prompt : IsStood schema below place → AtEachTurn (IsPrompt schema read outcomes before) before now
  pub leads : Leads schema outcomes below place after next

abbrev pub end_by : Stop → LinesEnd
end_by stop.Write = ends.WriteFault
end_by stop.Memory = ends.Memory

abbrev pub end_behind : Result (Unit {0}) Failed → LinesEnd
end_behind (Ok done) = ends.Done
end_behind (Err why) = ends.WriteFault
