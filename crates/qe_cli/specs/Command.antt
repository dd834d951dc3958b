-- What a command does: how it ends, what it has read and written by then, and what it did with the connector.
use Rattle.std.specs.Prelude.{◌≡◌, ◌⊎◌, ℕ, List, [], ◌∷◌, ◌++◌, false, Option, Some, None, IfSome, IsSomeAnd, Ok, Err, codes}
use Rattle.qe_base.specs.Outside.{Files, Seen, OnlyFetched, OnlyWrote, file_named}
use Rattle.qe_base.specs.Schemas.{Schema}
use Rattle.qe_view.specs.Attached.{Connected}
use Rattle.qe_view.specs.declared.changes.AttachFault.TheVariants as fault
use Rattle.qe_session.specs.Standing.{first_state}
use Rattle.qe_node.specs.Port.{Appends, AppendsPart, OnlyMoved}
use Rattle.qe_node.specs.Run.{Ran}
use Rattle.qe_node.specs.declared.LinesEnd.{LinesEnd}
use Rattle.qe_node.specs.declared.LinesEnd.TheVariants as lines
use Rattle.qe_cli.specs.declared.End.{End}
use Rattle.qe_cli.specs.declared.End.TheVariants as end
use Rattle.qe_cli.specs.declared.refusal.Refusal.{Refusal}
use Rattle.qe_cli.specs.declared.words.Command.{Command}
use Rattle.qe_cli.specs.declared.words.Command.TheVariants as command
use Rattle.qe_cli.specs.Asked.{command_of}
use Rattle.qe_cli.specs.Connected.{AttachesFor, IsAttached, IsIdle, laid_out}
use Rattle.qe_cli.specs.Ends.{status_of, line_of, EndsFor, Prints}
use Rattle.qe_cli.specs.Refused.{HasSchema, Refuses}

-- ---- the file that the words name

-- the file of that name holds such a text, where the host tells
abbrev pub FileHolds : Option Files → List ℕ → (List ℕ → Type 0) → Type 0
FileHolds files name P = IfSome files (λ all. IsSomeAnd (file_named name all) P)

-- the words are this command, and the file that they name holds this schema, where the host tells
abbrev pub NamesSchema : Command → List (List ℕ) → Option Files → Schema → Type 0
NamesSchema command words files schema = (name : List ℕ) × (command_of words ≡ Some (command, name)) × FileHolds files name (λ text. HasSchema text schema)

-- the words are a command
abbrev pub NamesCommand : List (List ℕ) → Type 0
NamesCommand words = (command : Command) × (name : List ℕ) × (command_of words ≡ Some (command, name))

-- the file that the words name holds a text that is refused so, where the host tells
abbrev pub NamesRefused : Refusal → List (List ℕ) → Option Files → Type 0
NamesRefused refusal words files = (command : Command) × (name : List ℕ) × (command_of words ≡ Some (command, name)) × FileHolds files name (Refuses refusal)

-- the host tells its files, and the one that the words name is there
abbrev pub HasSchemaFile : List (List ℕ) → Option Files → Type 0
HasSchemaFile words files = (all : Files) × (command : Command) × (name : List ℕ) × (text : List ℕ) × (files ≡ Some all) × (command_of words ≡ Some (command, name)) × (file_named name all ≡ Some text)

-- the host tells its files, and the one that the words name holds such a text
abbrev pub Offers : List (List ℕ) → Option Files → (List ℕ → Type 0) → Type 0
Offers words files P = (all : Files) × (command : Command) × (name : List ℕ) × (text : List ℕ) × (files ≡ Some all) × (command_of words ≡ Some (command, name)) × (file_named name all ≡ Some text) × P text

-- where the host tells which files were asked for: none was since, or once the one that the words name
abbrev pub AsksAtMost : List (List ℕ) → Seen → Seen → Type 0
AsksAtMost words before after =
    IfSome after.asked (λ names. IsSomeAnd before.asked (λ earlier. (names ≡ earlier) ⊎ ((command : Command) × (name : List ℕ) × (command_of words ≡ Some (command, name)) × (names ≡ earlier ++ name ∷ []))))

-- ---- a command over its schema, once that was fetched

-- how a text came out: whole, or not where a write failed
abbrev pub TextComes : List ℕ → End → Seen → Seen → Type 0
TextComes text end.Done before after = Appends before after text × OnlyWrote before after
TextComes text end.WriteFault before after = AppendsPart before after text × OnlyWrote before after
TextComes text _ before after = ⊥

-- how the layout of a schema came out, where memory was there for it
abbrev pub LayoutComes : Schema → End → Seen → Seen → Type 0
LayoutComes schema end.Done before after = TextComes (laid_out schema) end.Done before after
LayoutComes schema end.WriteFault before after = TextComes (laid_out schema) end.WriteFault before after
LayoutComes schema end.Memory before after = after ≡ before
LayoutComes schema _ before after = ⊥

-- The lines of the input came to this end over a connector that was attached for the schema: a run from what it told by
-- then. It is handed back attached so.
pub record RunsOver (e : LinesEnd) (schema : Schema) (before after : Seen) (given back : Connected) : Type 0 where
  pub opened : Connected
  pub opens : AttachesFor schema given opened (Ok tt)
  pub ran : Ran e schema (first_state schema opened) before after opened back
  pub others : OnlyMoved before after
  pub attached : IsAttached schema back

-- why a connector wasn't attached for a schema, or not used; the two counts are its own before and after
abbrev pub StaysUnused : End → Schema → Connected → Connected → Type 0
StaysUnused end.Memory schema given back = IsIdle schema given back
StaysUnused (end.ConnectorFault first last) schema given back = AttachesFor schema given back (Err fault.Failed) × (first ≡ given.faults.count) × (last ≡ back.faults.count)
StaysUnused end.LayoutDiffers schema given back = (kept : List ℕ) × (wanted : List ℕ) × AttachesFor schema given back (Err (fault.Layout kept wanted))
StaysUnused _ schema given back = ⊥

-- How a run over a schema came to its end. Where the connector wasn't used nothing was read or written.
abbrev pub RunComes : End → Schema → Seen → Seen → Connected → Connected → Type 0
RunComes end.Done schema before after given back = RunsOver lines.Done schema before after given back
RunComes end.LongInput schema before after given back = RunsOver lines.LongInput schema before after given back
RunComes end.ReadFault schema before after given back = RunsOver lines.ReadFault schema before after given back
RunComes end.WriteFault schema before after given back = RunsOver lines.WriteFault schema before after given back
RunComes end.Memory schema before after given back = (StaysUnused end.Memory schema given back × (after ≡ before)) ⊎ RunsOver lines.Memory schema before after given back
RunComes e schema before after given back = StaysUnused e schema given back × (after ≡ before)

-- a run came to its end so by a connector that had been attached for the schema
abbrev pub RunGoesOn : End → Schema → Seen → Seen → Connected → Connected → Type 0
RunGoesOn e schema before after opened back = (given : Connected) → AttachesFor schema given opened (Ok tt) → RunComes e schema before after given back

-- How a command came to its end over its schema. But for a run, the connector handed back is the same.
abbrev pub SchemaComes : Command → End → Schema → Seen → Seen → Connected → Connected → Type 0 → Type 0
SchemaComes command.Run e schema before after given back same = RunComes e schema before after given back
SchemaComes command.Validate e schema before after given back same = TextComes (codes "ok\n") e before after × same
SchemaComes command.Layout e schema before after given back same = LayoutComes schema e before after × same

-- ---- a command

-- The file that the words name was fetched and held this schema, and the command of the words came to its end over that.
pub record WithSchema (e : End) (words : List (List ℕ)) (before after : Seen) (given back : Connected) (same : Type 0) : Type 0 where
  pub asked : Command
  pub schema : Schema
  pub fetched : Seen
  pub names : NamesSchema asked words before.files schema
  pub fetch : OnlyFetched before fetched
  pub comes : SchemaComes asked e schema fetched after given back same

-- the words are a command, but nothing was done besides a fetch
abbrev pub OnlyAsked : List (List ℕ) → Seen → Seen → Type 0 → Type 0
OnlyAsked words before after same = NamesCommand words × OnlyFetched before after × same

-- How a command came to its end, before the line of its own. `same` says that the connector handed back is the one
-- handed in.
abbrev pub Comes : End → List (List ℕ) → Seen → Seen → Connected → Connected → Type 0 → Type 0
Comes end.Usage words before after given back same = (command_of words ≡ None) × (after ≡ before) × same
Comes (end.Refused refusal) words before after given back same = NamesRefused refusal words before.files × OnlyFetched before after × same
Comes end.FetchFault words before after given back same = OnlyAsked words before after same × (before.fetches.may_fail ≡ false → HasSchemaFile words before.files → ⊥)
Comes end.Memory words before after given back same = OnlyAsked words before after same ⊎ WithSchema end.Memory words before after given back same
Comes e words before after given back same = WithSchema e words before after given back same

-- How a command ended, by the words, what is seen of the host before and after it, what is seen of the connector handed in
-- and back, and the program's status: all that was read and written up to a point, and the line of the end after that.
pub record Ends (words : List (List ℕ)) (before after : Seen) (given back : Connected) (same : Type 0) (status : ℕ) : Type 0 where
  pub ended : End
  pub mid : Seen
  pub status_is : status ≡ status_of ended
  pub comes : Comes ended words before mid given back same
  pub prints : Prints (line_of ended) mid after
  pub causes : EndsFor ended before mid

-- the same of the connector itself, by what is seen of it
abbrev pub EndsOver : {C : Type 0} → (C → Connected) → List (List ℕ) → Seen → Seen → C → C → ℕ → Type 0
EndsOver seen words before after given back status = Ends words before after (seen given) (seen back) (back ≡ given) status
