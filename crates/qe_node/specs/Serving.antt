-- What a core does for lines.
use Rattle.std.specs.Prelude.{◌≡◌, ℕ, List, [], ◌∷◌, ◌++◌, length, Option, Some, None}
use Rattle.qe_base.specs.Schemas.{Schema}
use Rattle.qe_base.specs.declared.event.Reply.{Reply}
use Rattle.qe_base.specs.declared.write.Op.{Op}
use Rattle.qe_forms.specs.Reply.{told_text, not_json_text, unbuilt_text, memory_text}
use Rattle.qe_history.specs.Exchange.{LineOutcome, told, entered, history_of}
use Rattle.qe_history.specs.State.{State}
use Rattle.qe_ops.specs.Bounds.{both_calls, calls_of}
use Rattle.qe_request.specs.declared.lines.LineFault.{LineFault}
use Rattle.qe_request.specs.declared.lines.LineFault.TheVariants as fault
use Rattle.qe_session.specs.Handling.{one_apply}
use Rattle.qe_session.specs.Standing.{StandsFor}
use Rattle.qe_view.specs.Attached.{Connected}
use Rattle.qe_view.specs.Calls.{CallCounts, MakesAtMost, no_calls}

-- the calls that a line makes of the connector at most: none without an event, else those of its operation and one to
-- apply its changes
abbrev pub line_calls : Schema → LineOutcome → CallCounts
line_calls schema (told text) = no_calls
line_calls schema (entered op reply) = both_calls (calls_of schema op) one_apply

abbrev pub lines_calls : Schema → List LineOutcome → CallCounts
lines_calls schema [] = no_calls
lines_calls schema (outcome ∷ outcomes) = both_calls (line_calls schema outcome) (lines_calls schema outcomes)

-- what stood for no history stands for that of the greeting
abbrev pub Greets : Schema → Connected → Connected → Type 0
Greets schema below after = (opening : State) → StandsFor schema below opening [] → StandsFor schema after opening (history_of [])

-- It stands for the history of some outcomes, which has this length.
pub record IsStood (schema : Schema) (below : Connected) (place : ℕ) : Type 0 where
  pub opening : State
  pub done : List LineOutcome
  pub stands : StandsFor schema below opening (history_of done)
  pub length_is : place ≡ length (history_of done)

-- What stood for the history of any outcomes stands for that of these too, behind them, and no more calls were made than
-- they need.
pub record Leads (schema : Schema) (outcomes : List LineOutcome) (below : Connected) (place : ℕ) (after : Connected) (next : ℕ) : Type 0 where
  pub stands : (opening : State) (done : List LineOutcome) → StandsFor schema below opening (history_of done) → place ≡ length (history_of done)
      → StandsFor schema after opening (history_of (done ++ outcomes)) × (next ≡ length (history_of (done ++ outcomes)))
  pub calls : MakesAtMost (lines_calls schema outcomes) below.calls after.calls

-- An operation was entered, and this is its reply's text.
pub record Enters (schema : Schema) (op : Op) (text : Option (List ℕ)) (below : Connected) (place : ℕ) (after : Connected) (next : ℕ) : Type 0 where
  pub reply : Reply
  pub text_is : text ≡ told_text schema reply
  pub leads : Leads schema (entered op reply ∷ []) below place after next

-- the text of a line that has no operation
abbrev pub fault_text : LineFault → List ℕ
fault_text fault.NotJson = not_json_text
fault_text fault.Unbuilt = unbuilt_text
fault_text fault.Memory = memory_text

-- where a reply has no text, memory was short
abbrev pub text_or_memory : Option (List ℕ) → List ℕ
text_or_memory (Some text) = text
text_or_memory None = memory_text
