-- What the status of a command says.
use Rattle.std.specs.Prelude.{◌≡◌, ◌⊎◌, ℕ, ◌<◌, ◌≤◌, List, [], length, Some, IfSome, IsSomeAnd, Ok, codes, false}
use Rattle.qe_base.specs.Outside.{Seen, Turn, OnlyFetched}
use Rattle.qe_base.specs.Schemas.{Schema}
use Rattle.qe_history.specs.Exchange.{LineOutcome, ComeOf, bytes_of, history_of}
use Rattle.qe_history.specs.Lines.{lines_of}
use Rattle.qe_node.specs.Port.{Appends}
use Rattle.qe_node.specs.Run.{AtEachTurn, IsPrompt, longest_input}
use Rattle.qe_session.specs.Standing.{StandsFor, first_state}
use Rattle.qe_view.specs.Attached.{Connected}
use Rattle.qe_cli.specs.Asked.{Asks, ReadsAlone}
use Rattle.qe_cli.specs.Command.{HasSchemaFile, NamesRefused, NamesSchema, Offers}
use Rattle.qe_cli.specs.Connected.{AttachesFor, FailsToOpen, IsAttached, IsLaidOtherwise, IsLaidOut, IsUnopened, laid_out}
use Rattle.qe_cli.specs.Ends.{EndsFor, Prints, line_of}
use Rattle.qe_cli.specs.Refused.{HasSchema, Refuses, refusal_line}
use Rattle.qe_cli.specs.declared.End.{End}
use Rattle.qe_cli.specs.declared.End.TheVariants as end
use Rattle.qe_cli.specs.declared.refusal.Refusal.{Refusal}
use Rattle.qe_cli.specs.declared.words.Command.TheVariants as command

-- words or schema are refused, or the schema is only read
abbrev pub IsApart : List (List ℕ) → ℕ → Type 0
IsApart words status = (status ≡ 2) ⊎ ((status ≡ 3) ⊎ ReadsAlone words)

-- The file that the words name holds a text that is refused; nothing was done but to fetch it, and the line printed says
-- why.
pub record SaysWhy (words : List (List ℕ)) (before after : Seen) : Type 0 where
  pub why : Refusal
  pub names : NamesRefused why words before.files
  pub fetched : Seen
  pub fetch : OnlyFetched before fetched
  pub prints : Prints (refusal_line why) fetched after

-- All lines of the input were answered, and no more is left: what was written are the lines of their outcomes. The
-- connector was attached for the schema, and handed back attached so. It stands for the one legal history of the outcomes,
-- from the tables that it told first.
pub record AnswersAll (words : List (List ℕ)) (before after : Seen) (given back : Connected) : Type 0 where
  pub schema : Schema
  pub names : NamesSchema command.Run words before.files schema
  pub opened : Connected
  pub opens : AttachesFor schema given opened (Ok tt)
  pub attached : IsAttached schema back
  pub read : List ℕ
  pub input : IfSome after.left (λ unread. (unread ≡ []) × (before.left ≡ Some read))
  pub short : length read ≤ longest_input
  pub outcomes : List LineOutcome
  pub come : ComeOf schema (lines_of read) outcomes
  pub written : Appends before after (bytes_of schema outcomes)
  pub stands : StandsFor schema back (first_state schema opened) (history_of outcomes)

-- so it is at status 0 of a run
abbrev pub AnswersRun : List (List ℕ) → Seen → Seen → Connected → Connected → ℕ → Type 0
AnswersRun words before after given back status = status ≡ 0 → Asks command.Run words → AnswersAll words before after given back

-- the same of the connector itself, by what is seen of it
abbrev pub AnswersOver : {C : Type 0} → (C → Connected) → List (List ℕ) → Seen → Seen → C → C → ℕ → Type 0
AnswersOver seen words before after given back status = AnswersRun words before after (seen given) (seen back) status

-- A read was one of a run over the schema that the words name, and began when each whole line in what had been read by then
-- was answered.
abbrev pub ReadsOn : List (List ℕ) → Seen → Turn → Type 0
ReadsOn words before turn = (schema : Schema) × NamesSchema command.Run words before.files schema × (read : List ℕ) × (outcomes : List LineOutcome) × IsPrompt schema read outcomes before turn

-- so it is with each read, at every end, where the host tells its turns
abbrev pub AnswersAtOnce : List (List ℕ) → Seen → Seen → Type 0
AnswersAtOnce words before after = AtEachTurn (ReadsOn words before) before after

-- the words are those of a run over a schema, and a connector is attached for that
abbrev pub IsAttachedFor : List (List ℕ) → Seen → Connected → Type 0
IsAttachedFor words before back = (schema : Schema) × NamesSchema command.Run words before.files schema × IsAttached schema back

-- the file that the words name holds a schema, `ok` was written, and nothing was read
abbrev pub SaysOk : List (List ℕ) → Seen → Seen → Type 0
SaysOk words before after = (schema : Schema) × NamesSchema command.Validate words before.files schema × (after.left ≡ before.left) × Appends before after (codes "ok\n")

-- the file that the words name holds a schema, its layout was written, and nothing was read
abbrev pub SaysLayout : List (List ℕ) → Seen → Seen → Type 0
SaysLayout words before after = (schema : Schema) × NamesSchema command.Layout words before.files schema × (after.left ≡ before.left) × Appends before after (laid_out schema)

-- so it is where the words are those of such a command
abbrev pub Opens : List (List ℕ) → Seen → Connected → Type 0
Opens words before back = Asks command.Run words → IsAttachedFor words before back

abbrev pub Validates : List (List ℕ) → Seen → Seen → Type 0
Validates words before after = Asks command.Validate words → SaysOk words before after

abbrev pub LaysOut : List (List ℕ) → Seen → Seen → Type 0
LaysOut words before after = Asks command.Layout words → SaysLayout words before after

-- nothing was read, and no read failed
abbrev pub IsUnread : Seen → Seen → Type 0
IsUnread before after = (after.left ≡ before.left) × (after.reads.count ≡ before.reads.count)

-- the input is longer than the longest, where the host tells
abbrev pub IsLong : Seen → Seen → Type 0
IsLong before after = IfSome after.left (λ unread. IsSomeAnd before.left (λ input. longest_input < length input))

-- no call of the host failed
pub record IsCalm (before after : Seen) : Type 0 where
  pub fetches : after.fetches.count ≡ before.fetches.count
  pub reads : after.reads.count ≡ before.reads.count
  pub writes : after.writes.count ≡ before.writes.count

abbrev pub IsFault : End → Type 0
IsFault end.FetchFault = Unit {0}
IsFault end.ReadFault = Unit {0}
IsFault end.WriteFault = Unit {0}
IsFault _ = ⊥

-- A fetch, a read or a write failed, whose count rose and no other; the line printed after that says which.
pub record HasFault (before after : Seen) : Type 0 where
  pub failed : End
  pub mid : Seen
  pub is_fault : IsFault failed
  pub causes : EndsFor failed before mid
  pub prints : Prints (line_of failed) mid after

-- The connector isn't attached: it failed when it was to be, or keeps what is laid out for another schema than the one
-- that the words name.
pub record IsShut (words : List (List ℕ)) (before : Seen) (given back : Connected) : Type 0 where
  pub unopened : IsUnopened given back
  pub why : FailsToOpen given back ⊎ ((schema : Schema) × NamesSchema command.Run words before.files schema × IsLaidOtherwise schema given back)

-- the same of the connector itself, by what is seen of it
abbrev pub IsShutOver : {C : Type 0} → (C → Connected) → List (List ℕ) → Seen → C → C → Type 0
IsShutOver seen words before given back = IsShut words before (seen given) (seen back)

-- a steady host with the file has no fault
abbrev pub FaultsOf : List (List ℕ) → Seen → ℕ → Type 0
FaultsOf words before status = HasSchemaFile words before.files → status ≡ 4 → ⊥

-- a command over a schema is done, but for want of memory, and for connector and input of a run
abbrev pub GoesWell : List (List ℕ) → ℕ → Type 0
GoesWell words status = (status ≡ 0) ⊎ ((status ≡ 5) ⊎ (((status ≡ 6) ⊎ (status ≡ 7)) × Asks command.Run words))

-- so it is where the file holds a schema
abbrev pub AcceptsSchema : List (List ℕ) → Seen → ℕ → Type 0
AcceptsSchema words before status = (schema : Schema) → Offers words before.files (λ text. HasSchema text schema) → GoesWell words status

-- where the file holds a schema, a connector that can't fail, and keeps nothing or what is laid out so, is opened
abbrev pub OpensSchema : List (List ℕ) → Seen → Connected → ℕ → Type 0
OpensSchema words before given status = given.faults.may_fail ≡ false → (schema : Schema) → Offers words before.files (λ text. HasSchema text schema) → IsLaidOut schema given → status ≡ 6 → ⊥

-- where the file holds a text that is to be refused it is, but for want of memory
abbrev pub RefusesText : List (List ℕ) → Seen → ℕ → Type 0
RefusesText words before status = (why : Refusal) → Offers words before.files (Refuses why) → (status ≡ 3) ⊎ (status ≡ 5)
