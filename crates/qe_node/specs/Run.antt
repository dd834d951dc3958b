-- A run over the lines of an input: how it ends, and what was done and written by then.
use Rattle.std.specs.Prelude.{◌≡◌, ℕ, ◌+◌, ◌<◌, ◌≤◌, List, [], ◌∷◌, ◌++◌, All, length, take, Some, IfSome, IsSomeAnd}
use Rattle.qe_base.specs.Outside.{Seen, Turn}
use Rattle.qe_base.specs.Schemas.{Schema}
use Rattle.qe_history.specs.Exchange.{LineOutcome, ComeOf, bytes_of, history_of, outcome_line}
use Rattle.qe_history.specs.Lines.{lines_of, whole_lines_of}
use Rattle.qe_history.specs.State.{State}
use Rattle.qe_node.specs.Port.{Appends}
use Rattle.qe_node.specs.Serving.{lines_calls}
use Rattle.qe_node.specs.declared.LinesEnd.{LinesEnd}
use Rattle.qe_node.specs.declared.LinesEnd.TheVariants as ends
use Rattle.qe_session.specs.Standing.{StandsFor}
use Rattle.qe_view.specs.Attached.{Connected}
use Rattle.qe_view.specs.Calls.{MakesAtMost}

-- how many bytes an input may have
abbrev pub longest_input : ℕ
longest_input = 67108864

-- the outcomes are those of the first lines of the bytes
abbrev pub AreFirst : Schema → List ℕ → List LineOutcome → Type 0
AreFirst schema read outcomes = (lines : List (List ℕ)) × (later : List (List ℕ)) × (lines_of read ≡ lines ++ later) × ComeOf schema lines outcomes

-- the lines of all outcomes were written
abbrev pub AllWritten : Schema → List LineOutcome → Seen → Seen → Type 0
AllWritten schema outcomes before after = Appends before after (bytes_of schema outcomes)

-- all were written but the last, of which a part was
pub record LastCut (schema : Schema) (outcomes : List LineOutcome) (before after : Seen) : Type 0 where
  pub front : List LineOutcome
  pub last : LineOutcome
  pub all : outcomes ≡ front ++ last ∷ []
  pub count : ℕ
  pub part : count < length (outcome_line schema last)
  pub written : Appends before after (bytes_of schema front ++ take count (outcome_line schema last))

-- Which lines were answered and what was written at each end: all lines of an input that was read to its end; all whole
-- lines where a read failed, or that end within the longest input; the lines up to the one that wasn't written whole; and
-- those before the one at which memory was short.
abbrev pub EndsWith : LinesEnd → Schema → List ℕ → List LineOutcome → Seen → Seen → Type 0
EndsWith ends.Done schema read outcomes before after =
    ComeOf schema (lines_of read) outcomes × AllWritten schema outcomes before after × (length read ≤ longest_input) × IfSome after.left (λ left. left ≡ [])
EndsWith ends.LongInput schema read outcomes before after =
    ComeOf schema (whole_lines_of (take longest_input read)) outcomes × AllWritten schema outcomes before after × (length read ≡ longest_input + 1)
EndsWith ends.ReadFault schema read outcomes before after = ComeOf schema (whole_lines_of read) outcomes × AllWritten schema outcomes before after
EndsWith ends.WriteFault schema read outcomes before after = AreFirst schema read outcomes × LastCut schema outcomes before after
EndsWith ends.Memory schema read outcomes before after = AreFirst schema read outcomes × AllWritten schema outcomes before after

-- where the turns are told, this holds of each read since
abbrev pub AtEachTurn : (Turn → Type 0) → Seen → Seen → Type 0
AtEachTurn P before after = IfSome after.turns (λ turns. IsSomeAnd before.turns (λ earlier. (since : List Turn) × (turns ≡ earlier ++ since) × All P since))

-- A read of a run began when each whole line in what had been read by then was answered: the lines of these outcomes had
-- been written, and no more. These bytes and outcomes come first of all those of the run.
pub record IsPrompt (schema : Schema) (all : List ℕ) (outcomes : List LineOutcome) (before : Seen) (turn : Turn) : Type 0 where
  pub read : List ℕ
  pub more : List ℕ
  pub bytes : all ≡ read ++ more
  pub source : IfSome turn.left (λ left. before.left ≡ Some (read ++ left))
  pub answered : List LineOutcome
  pub later : List LineOutcome
  pub first : outcomes ≡ answered ++ later
  pub come : ComeOf schema (whole_lines_of read) answered
  pub written : IfSome turn.taken (λ taken. IsSomeAnd before.taken (λ old. taken ≡ old ++ bytes_of schema answered))

-- A run: the bytes that were read, and the outcomes of the lines that were answered, which make the one legal history that
-- the core stands for by then. No read came while a whole line was unanswered.
pub record Ran (end : LinesEnd) (schema : Schema) (opening : State) (before after : Seen) (given below : Connected) : Type 0 where
  pub read : List ℕ
  pub outcomes : List LineOutcome
  pub source : IfSome after.left (λ left. before.left ≡ Some (read ++ left))
  pub ends : EndsWith end schema read outcomes before after
  pub prompt : AtEachTurn (IsPrompt schema read outcomes before) before after
  pub stands : StandsFor schema below opening (history_of outcomes)
  pub calls : MakesAtMost (lines_calls schema outcomes) given.calls below.calls

-- a run from each opening that a core without history stood for
abbrev pub RunsFromAny : LinesEnd → Schema → Seen → Seen → Connected → Connected → Type 0
RunsFromAny end schema before after given below = (opening : State) → StandsFor schema given opening [] → Ran end schema opening before after given below
