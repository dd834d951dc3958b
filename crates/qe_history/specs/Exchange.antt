-- What is written for the lines of one caller, and the history that they make.
use Rattle.std.specs.Prelude.{◌≡◌, ◌⊎◌, ℕ, pos, List, [], ◌∷◌, ◌++◌, None, flat_map}
use Rattle.qe_base.specs.declared.answer.Outside.{Outside}
use Rattle.qe_base.specs.declared.write.Op.{Op}
use Rattle.qe_base.specs.Schemas.{Schema}
use Rattle.qe_base.specs.declared.event.What.{What}
use Rattle.qe_base.specs.declared.event.What.TheVariants as what
use Rattle.qe_base.specs.declared.event.Event.{Event}
use Rattle.qe_base.specs.declared.event.Reply.{Reply}
use Rattle.qe_base.specs.declared.event.Reply.TheVariants as reply
use Rattle.qe_base.specs.declared.event.Entry.{Entry}
use Rattle.qe_forms.specs.Request.{Asked, not_json, unbuilt, asks, asked_of}
use Rattle.qe_forms.specs.Reply.{text_of, not_json_text, unbuilt_text, memory_text}

-- what comes of a line: a text without an event, or an event with its reply
pub data LineOutcome : Type 0 where
  told : List ℕ → LineOutcome
  entered : Op → Reply → LineOutcome

-- A line that reads as a request is entered; the others have their texts. Where memory is short
-- for reading, no line is entered.
abbrev pub ComesOf : Asked → LineOutcome → Type 0
ComesOf not_json (told text) = (text ≡ not_json_text) ⊎ (text ≡ memory_text)
ComesOf not_json (entered op reply) = ⊥
ComesOf unbuilt (told text) = (text ≡ unbuilt_text) ⊎ (text ≡ memory_text)
ComesOf unbuilt (entered op reply) = ⊥
ComesOf (asks op) (told text) = text ≡ memory_text
ComesOf (asks op) (entered other reply) = other ≡ op

-- one outcome for each line, in order
abbrev pub ComeOf : Schema → List (List ℕ) → List LineOutcome → Type 0
ComeOf schema [] [] = Unit {0}
ComeOf schema [] (outcome ∷ outcomes) = ⊥
ComeOf schema (line ∷ lines) [] = ⊥
ComeOf schema (line ∷ lines) (outcome ∷ outcomes) = ComesOf (asked_of schema line) outcome × ComeOf schema lines outcomes

-- the moment and the seed that each event is given so far
abbrev pub outside : Outside
outside = record { moment = pos 0; seed = 0 }

abbrev pub event_of : What → Event
event_of asked = record { seen = None; outside = outside; what = asked }

-- the caller is the one that greeted at place 0
abbrev pub entry_of : What → Reply → Entry
entry_of asked reply = record { caller = 0; event = event_of asked; reply = reply }

abbrev pub entered_of : LineOutcome → List Entry
entered_of (told text) = []
entered_of (entered op reply) = entry_of (what.Single op) reply ∷ []

-- a greeting, then an entry for each line that was entered
abbrev pub history_of : List LineOutcome → List Entry
history_of outcomes = entry_of what.Hello reply.Hello ∷ flat_map entered_of outcomes

abbrev pub outcome_text : Schema → LineOutcome → List ℕ
outcome_text schema (told text) = text
outcome_text schema (entered op reply) = text_of schema reply

-- the text of an outcome, and a newline after it
abbrev pub outcome_line : Schema → LineOutcome → List ℕ
outcome_line schema outcome = outcome_text schema outcome ++ 10 ∷ []

-- the lines of the outcomes, one after another
abbrev pub bytes_of : Schema → List LineOutcome → List ℕ
bytes_of schema outcomes = flat_map (outcome_line schema) outcomes
