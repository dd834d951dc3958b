-- What the status of a command says, by how it ended.
use Rattle.std.proofs.Common.{◌≡◌, ℕ, zero, suc, ◌+◌, ◌<◌, List, [], ◌++◌, Bool, true, false, refl, sym, ap, ◌∙◌, subst, append-nil, Option, Some, None, length, take, arith, inl, inr, ◌⊎◌, true≢false, length-append}
use Rattle.std.specs.Prelude.{◌↔◌, IfSome, IsSomeAnd, Ok, Err, Result, is_some, unwrap_or}
use Rattle.qe_base.specs.Outside.{Files, IsSteady, OnlyFetched, OnlyWrote, Seen}
use Rattle.qe_base.specs.Schemas.{Schema}
use Rattle.psl_text.specs.declared.fault.TextFault.TheVariants as textual
use Rattle.psl_text.proofs.BlockRules.{one_tree_only}
use Rattle.psl_text.proofs.FaultTexts.{tree_or_fault_only}
use Rattle.psl_rules.specs.Accepted.{first_breach}
use Rattle.psl_sound.specs.SchemaOf.{schema_of}
use Rattle.qe_cli.specs.Asked.{Asks, ReadsAlone, command_of}
use Rattle.qe_cli.specs.Command.{Comes, Ends, FileHolds, HasSchemaFile, LayoutComes, NamesSchema, Offers, RunComes, RunsOver, SchemaComes, TextComes, WithSchema}
use Rattle.qe_cli.specs.Connected.{AttachesFor, FailsToOpen, IsLaidOtherwise, IsLaidOut, IsUnopened, laid_out}
use Rattle.qe_cli.specs.Ends.{EndsFor, Prints, has_made_line, line_of, status_of}
use Rattle.qe_cli.specs.Refused.{HasSchema, Refuses}
use Rattle.qe_cli.specs.Says.{AcceptsSchema, AnswersRun, FaultsOf, GoesWell, HasFault, IsApart, IsCalm, IsFault, IsLong, IsShut, IsUnread, LaysOut, Opens, OpensSchema, RefusesText, SaysWhy, Validates}
use Rattle.qe_cli.specs.declared.End.{End}
use Rattle.qe_cli.specs.declared.End.TheVariants as end
use Rattle.qe_cli.specs.declared.refusal.Refusal.{Refusal}
use Rattle.qe_cli.specs.declared.refusal.Refusal.TheVariants as refusal
use Rattle.qe_cli.specs.declared.words.Command.{Command}
use Rattle.qe_cli.specs.declared.words.Command.TheVariants as command
use Rattle.qe_cli.proofs.Causes.{cause_as}
use Rattle.qe_node.specs.Port.{Appends}
use Rattle.qe_node.specs.Run.{longest_input}
use Rattle.qe_node.specs.declared.LinesEnd.TheVariants as lines
use Rattle.qe_view.specs.Attached.{Connected, HasText, Kept, KeepsOther}
use Rattle.qe_view.specs.declared.changes.AttachFault.{AttachFault}
use Rattle.qe_view.specs.declared.changes.AttachFault.TheVariants as attach

-- ---- the command of the words

asked_once : (words : List (List ℕ)) (a b : Command) (name : List ℕ) → command_of words ≡ Some (a, name) → Asks b words → a ≡ b
asked_once words a b name is asks = ap (λ (o : Option (Command × List ℕ)). (unwrap_or o (a, name)).0) (sym is ∙ asks.1)

abbrev is_run : Command → Bool
is_run command.Run = true
is_run command.Validate = false
is_run command.Layout = false

-- the words of a command that reads the schema alone are not those of a run
not_run : (words : List (List ℕ)) (asked : Command) (name : List ℕ) → command_of words ≡ Some (asked, name) → ReadsAlone words → asked ≡ command.Run → ⊥
not_run words asked name is (inl asks) same = true≢false (ap is_run (sym same ∙ asked_once words asked command.Validate name is asks))
not_run words asked name is (inr asks) same = true≢false (ap is_run (sym same ∙ asked_once words asked command.Layout name is asks))

-- words that name a command are some
named : (words : List (List ℕ)) (asked : Command) (name : List ℕ) → command_of words ≡ Some (asked, name) → command_of words ≡ None → ⊥
named words asked name is none = true≢false (ap is_some (sym is ∙ none))

-- ---- the end that was printed

-- a run whose connector failed may be told as one that was short of memory
short_run : (first last : ℕ) (words : List (List ℕ)) (before mid : Seen) (given back : Connected) (same : Type 0) → WithSchema (end.ConnectorFault first last) words before mid given back same → WithSchema end.Memory words before mid given back same
short_run first last words before mid given back same c = record { asked = c.asked; schema = c.schema; fetched = c.fetched; names = c.names; fetch = c.fetch; comes = by_command c.asked c.comes }
  where
    by_command : (asked : Command) → SchemaComes asked (end.ConnectorFault first last) c.schema c.fetched mid given back same → SchemaComes asked end.Memory c.schema c.fetched mid given back same
    by_command command.Run comes = inl (inr (Err attach.Failed, comes.0.0), comes.1)
    by_command command.Validate comes = absurd comes.0
    by_command command.Layout comes = absurd comes.0

short_end : (e : End) (words : List (List ℕ)) (before mid : Seen) (given back : Connected) (same : Type 0) → has_made_line e ≡ true → Comes e words before mid given back same → Comes end.Memory words before mid given back same
short_end end.Done words before mid given back same made comes = absurd (true≢false (sym made))
short_end end.Usage words before mid given back same made comes = absurd (true≢false (sym made))
short_end (end.Refused why) words before mid given back same made comes = inl ((comes.0.0, comes.0.1, comes.0.2), comes.1, comes.2)
short_end end.FetchFault words before mid given back same made comes = absurd (true≢false (sym made))
short_end end.ReadFault words before mid given back same made comes = absurd (true≢false (sym made))
short_end end.WriteFault words before mid given back same made comes = absurd (true≢false (sym made))
short_end end.Memory words before mid given back same made comes = absurd (true≢false (sym made))
short_end (end.ConnectorFault first last) words before mid given back same made comes = inr (short_run first last words before mid given back same comes)
short_end end.LayoutDiffers words before mid given back same made comes = absurd (true≢false (sym made))
short_end end.LongInput words before mid given back same made comes = absurd (true≢false (sym made))

-- the end that was printed is how the command ended, or want of memory
pub printed_comes : (printed e : End) (words : List (List ℕ)) (before mid : Seen) (given back : Connected) (same : Type 0) → (printed ≡ e) ⊎ ((has_made_line e ≡ true) × (printed ≡ end.Memory)) → Comes e words before mid given back same → Comes printed words before mid given back same
printed_comes printed e words before mid given back same (inl is) comes = subst (λ x. Comes x words before mid given back same) (sym is) comes
printed_comes printed e words before mid given back same (inr other) comes = subst (λ x. Comes x words before mid given back same) (sym other.1) (short_end e words before mid given back same other.0 comes)

short_causes : (e : End) (before mid : Seen) → has_made_line e ≡ true → EndsFor e before mid → EndsFor end.Memory before mid
short_causes end.Done before mid made ends = absurd (true≢false (sym made))
short_causes end.Usage before mid made ends = absurd (true≢false (sym made))
short_causes (end.Refused why) before mid made ends = record { fetch = ends.fetch; read = ends.read; write = ends.write; sure = ends.sure }
short_causes end.FetchFault before mid made ends = absurd (true≢false (sym made))
short_causes end.ReadFault before mid made ends = absurd (true≢false (sym made))
short_causes end.WriteFault before mid made ends = absurd (true≢false (sym made))
short_causes end.Memory before mid made ends = absurd (true≢false (sym made))
short_causes (end.ConnectorFault first last) before mid made ends = record { fetch = ends.fetch; read = ends.read; write = ends.write; sure = ends.sure }
short_causes end.LayoutDiffers before mid made ends = absurd (true≢false (sym made))
short_causes end.LongInput before mid made ends = absurd (true≢false (sym made))

pub printed_causes : (printed e : End) (before mid : Seen) → (printed ≡ e) ⊎ ((has_made_line e ≡ true) × (printed ≡ end.Memory)) → EndsFor e before mid → EndsFor printed before mid
printed_causes printed e before mid (inl is) ends = subst (λ x. EndsFor x before mid) (sym is) ends
printed_causes printed e before mid (inr other) ends = subst (λ x. EndsFor x before mid) (sym other.1) (short_causes e before mid other.0 ends)

-- ---- the status of an end

at_done : (e : End) → 0 ≡ status_of e → e ≡ end.Done
at_done end.Done is = refl
at_done end.Usage is = absurd (omega (arith, is))
at_done (end.Refused why) is = absurd (omega (arith, is))
at_done end.FetchFault is = absurd (omega (arith, is))
at_done end.ReadFault is = absurd (omega (arith, is))
at_done end.WriteFault is = absurd (omega (arith, is))
at_done end.Memory is = absurd (omega (arith, is))
at_done (end.ConnectorFault first last) is = absurd (omega (arith, is))
at_done end.LayoutDiffers is = absurd (omega (arith, is))
at_done end.LongInput is = absurd (omega (arith, is))

at_fault : (e : End) → 4 ≡ status_of e → IsFault e
at_fault end.Done is = absurd (omega (arith, is))
at_fault end.Usage is = absurd (omega (arith, is))
at_fault (end.Refused why) is = absurd (omega (arith, is))
at_fault end.FetchFault is = tt
at_fault end.ReadFault is = tt
at_fault end.WriteFault is = tt
at_fault end.Memory is = absurd (omega (arith, is))
at_fault (end.ConnectorFault first last) is = absurd (omega (arith, is))
at_fault end.LayoutDiffers is = absurd (omega (arith, is))
at_fault end.LongInput is = absurd (omega (arith, is))

-- 2 is the status of other words alone
at_usage : (e : End) (words : List (List ℕ)) (before mid : Seen) (given back : Connected) (same : Type 0) → 2 ≡ status_of e → Comes e words before mid given back same → command_of words ≡ None
at_usage end.Done words before mid given back same is comes = absurd (omega (arith, is))
at_usage end.Usage words before mid given back same is comes = comes.0
at_usage (end.Refused why) words before mid given back same is comes = absurd (omega (arith, is))
at_usage end.FetchFault words before mid given back same is comes = absurd (omega (arith, is))
at_usage end.ReadFault words before mid given back same is comes = absurd (omega (arith, is))
at_usage end.WriteFault words before mid given back same is comes = absurd (omega (arith, is))
at_usage end.Memory words before mid given back same is comes = absurd (omega (arith, is))
at_usage (end.ConnectorFault first last) words before mid given back same is comes = absurd (omega (arith, is))
at_usage end.LayoutDiffers words before mid given back same is comes = absurd (omega (arith, is))
at_usage end.LongInput words before mid given back same is comes = absurd (omega (arith, is))

schema_named : (e : End) (words : List (List ℕ)) (before mid : Seen) (given back : Connected) (same : Type 0) → WithSchema e words before mid given back same → command_of words ≡ None → ⊥
schema_named e words before mid given back same c none = named words c.asked c.names.0 c.names.1 none

usage_at : (e : End) (words : List (List ℕ)) (before mid : Seen) (given back : Connected) (same : Type 0) → command_of words ≡ None → Comes e words before mid given back same → status_of e ≡ 2
usage_at end.Done words before mid given back same none comes = absurd (schema_named end.Done words before mid given back same comes none)
usage_at end.Usage words before mid given back same none comes = refl
usage_at (end.Refused why) words before mid given back same none comes = absurd (named words comes.0.0 comes.0.1 comes.0.2 none)
usage_at end.FetchFault words before mid given back same none comes = absurd (named words comes.0.0.0 comes.0.0.1 comes.0.0.2 none)
usage_at end.ReadFault words before mid given back same none comes = absurd (schema_named end.ReadFault words before mid given back same comes none)
usage_at end.WriteFault words before mid given back same none comes = absurd (schema_named end.WriteFault words before mid given back same comes none)
usage_at end.Memory words before mid given back same none comes = absurd (either comes)
  where
    either : Comes end.Memory words before mid given back same → ⊥
    either (inl asked) = named words asked.0.0 asked.0.1 asked.0.2 none
    either (inr whole) = schema_named end.Memory words before mid given back same whole none
usage_at (end.ConnectorFault first last) words before mid given back same none comes = absurd (schema_named (end.ConnectorFault first last) words before mid given back same comes none)
usage_at end.LayoutDiffers words before mid given back same none comes = absurd (schema_named end.LayoutDiffers words before mid given back same comes none)
usage_at end.LongInput words before mid given back same none comes = absurd (schema_named end.LongInput words before mid given back same comes none)

pub usage : (words : List (List ℕ)) (before after : Seen) (given back : Connected) (same : Type 0) (status : ℕ) → Ends words before after given back same status → (status ≡ 2) ↔ (command_of words ≡ None)
usage words before after given back same status r = (
  (λ two. at_usage r.ended words before r.mid given back same (sym two ∙ r.status_is) r.comes),
  (λ none. r.status_is ∙ usage_at r.ended words before r.mid given back same none r.comes),
)

-- ---- refusals

at_refused : (e : End) (words : List (List ℕ)) (before mid after : Seen) (given back : Connected) (same : Type 0) → 3 ≡ status_of e → Comes e words before mid given back same → Prints (line_of e) mid after → SaysWhy words before after
at_refused end.Done words before mid after given back same is comes prints = absurd (omega (arith, is))
at_refused end.Usage words before mid after given back same is comes prints = absurd (omega (arith, is))
at_refused (end.Refused why) words before mid after given back same is comes prints = record { why = why; names = comes.0; fetched = mid; fetch = comes.1; prints = prints }
at_refused end.FetchFault words before mid after given back same is comes prints = absurd (omega (arith, is))
at_refused end.ReadFault words before mid after given back same is comes prints = absurd (omega (arith, is))
at_refused end.WriteFault words before mid after given back same is comes prints = absurd (omega (arith, is))
at_refused end.Memory words before mid after given back same is comes prints = absurd (omega (arith, is))
at_refused (end.ConnectorFault first last) words before mid after given back same is comes prints = absurd (omega (arith, is))
at_refused end.LayoutDiffers words before mid after given back same is comes prints = absurd (omega (arith, is))
at_refused end.LongInput words before mid after given back same is comes prints = absurd (omega (arith, is))

pub refused : (words : List (List ℕ)) (before after : Seen) (given back : Connected) (same : Type 0) (status : ℕ) → Ends words before after given back same status → status ≡ 3 → SaysWhy words before after
refused words before after given back same status r three = at_refused r.ended words before r.mid after given back same (sym three ∙ r.status_is) r.comes r.prints

-- ---- what was done

no_line : (count : ℕ) → take count (line_of end.Done) ≡ []
no_line zero = refl
no_line (suc count) = refl

-- the command of the words was done over a schema that they name
record Did (asked : Command) (words : List (List ℕ)) (before after : Seen) (given back : Connected) (same : Type 0) : Type 0 where
  pub schema : Schema
  pub fetched : Seen
  pub mid : Seen
  pub names : NamesSchema asked words before.files schema
  pub fetch : OnlyFetched before fetched
  pub comes : SchemaComes asked end.Done schema fetched mid given back same
  pub last : Appends mid after []
  pub others : OnlyWrote mid after

did : (asked : Command) (words : List (List ℕ)) (before after : Seen) (given back : Connected) (same : Type 0) (status : ℕ) → Ends words before after given back same status → status ≡ 0 → Asks asked words → Did asked words before after given back same
did asked words before after given back same status r none asks =
    let done = at_done r.ended (sym none ∙ r.status_is) in
    let c : WithSchema end.Done words before r.mid given back same = subst (λ x. Comes x words before r.mid given back same) done r.comes in
    let p = subst (λ x. Prints (line_of x) r.mid after) done r.prints in
    let is = asked_once words c.asked asked c.names.0 c.names.1 asks in
    record {
      schema = c.schema;
      fetched = c.fetched;
      mid = r.mid;
      names = subst (λ k. NamesSchema k words before.files c.schema) is c.names;
      fetch = c.fetch;
      comes = subst (λ k. SchemaComes k end.Done c.schema c.fetched r.mid given back same) is c.comes;
      last = subst (Appends r.mid after) (no_line p.count) p.written;
      others = p.others;
    }

appended : (taken mid now : Option (List ℕ)) (bytes : List ℕ) → IfSome mid (λ all. IsSomeAnd taken (λ old. all ≡ old ++ bytes)) → IfSome now (λ all. IsSomeAnd mid (λ old. all ≡ old ++ [])) → IfSome now (λ all. IsSomeAnd taken (λ old. all ≡ old ++ bytes))
appended taken mid None bytes first last = tt
appended taken None (Some written) bytes first last = absurd last
appended None (Some between) (Some written) bytes first last = first
appended (Some old) (Some between) (Some written) bytes first last = last ∙ append-nil between ∙ first

-- what was taken behind the fetch was taken behind the state before it
taken_from : (before fetched after : Seen) (bytes : List ℕ) → OnlyFetched before fetched → Appends fetched after bytes → Appends before after bytes
taken_from before fetched after bytes fetch appends = subst (λ t. IfSome after.taken (λ all. IsSomeAnd t (λ old. all ≡ old ++ bytes))) (ap (λ (s : Seen). s.taken) fetch) appends

all_taken : (before fetched mid after : Seen) (bytes : List ℕ) → OnlyFetched before fetched → Appends fetched mid bytes → Appends mid after [] → Appends before after bytes
all_taken before fetched mid after bytes fetch first last = taken_from before fetched after bytes fetch (appended fetched.taken mid.taken after.taken bytes first last)

-- nothing was read by writing behind a fetch
left_by : (before fetched mid after : Seen) → OnlyFetched before fetched → OnlyWrote fetched mid → OnlyWrote mid after → after.left ≡ before.left
left_by before fetched mid after fetch first last = ap (λ (s : Seen). s.left) last ∙ (ap (λ (s : Seen). s.left) first ∙ ap (λ (s : Seen). s.left) fetch)

pub validated : (words : List (List ℕ)) (before after : Seen) (given back : Connected) (same : Type 0) (status : ℕ) → Ends words before after given back same status → status ≡ 0 → Validates words before after
validated words before after given back same status r none = λ asks.
    let d = did command.Validate words before after given back same status r none asks in
    (d.schema, d.names, left_by before d.fetched d.mid after d.fetch d.comes.0.1 d.others, all_taken before d.fetched d.mid after _ d.fetch d.comes.0.0 d.last)

pub laid : (words : List (List ℕ)) (before after : Seen) (given back : Connected) (same : Type 0) (status : ℕ) → Ends words before after given back same status → status ≡ 0 → LaysOut words before after
laid words before after given back same status r none = λ asks.
    let d = did command.Layout words before after given back same status r none asks in
    (d.schema, d.names, left_by before d.fetched d.mid after d.fetch d.comes.0.1 d.others, all_taken before d.fetched d.mid after _ d.fetch d.comes.0.0 d.last)

all_read : (left from : Option (List ℕ)) (read : List ℕ) → IfSome left (λ l. from ≡ Some (read ++ l)) → IfSome left (λ l. l ≡ []) → IfSome left (λ unread. (unread ≡ []) × (from ≡ Some read))
all_read None from read source none = tt
all_read (Some l) from read source none = (none, source ∙ ap (λ x. Some (read ++ x)) none ∙ ap Some (append-nil read))

pub answered : (words : List (List ℕ)) (before after : Seen) (given back : Connected) (same : Type 0) (status : ℕ) → Ends words before after given back same status → AnswersRun words before after given back status
answered words before after given back same status r = λ none asks.
    let d = did command.Run words before after given back same status r none asks in
    let run : RunsOver lines.Done d.schema d.fetched d.mid given back = d.comes in
    let input = all_read d.mid.left d.fetched.left run.ran.read run.ran.source run.ran.ends.3 in
    let left = ap (λ (s : Seen). s.left) d.others in
    let from = ap (λ (s : Seen). s.left) d.fetch in
    record {
      schema = d.schema;
      names = d.names;
      opened = run.opened;
      opens = run.opens;
      attached = run.attached;
      read = run.ran.read;
      input = subst (λ f. IfSome after.left (λ unread. (unread ≡ []) × (f ≡ Some run.ran.read))) from (subst (λ l. IfSome l (λ unread. (unread ≡ []) × (d.fetched.left ≡ Some run.ran.read))) (sym left) input);
      short = run.ran.ends.2;
      outcomes = run.ran.outcomes;
      come = run.ran.ends.0;
      written = all_taken before d.fetched d.mid after _ d.fetch run.ran.ends.1 d.last;
      stands = run.ran.stands;
    }

pub opened : (words : List (List ℕ)) (before after : Seen) (given back : Connected) (same : Type 0) (status : ℕ) → Ends words before after given back same status → status ≡ 0 → Opens words before back
opened words before after given back same status r none = λ asks.
    let d = did command.Run words before after given back same status r none asks in
    let run : RunsOver lines.Done d.schema d.fetched d.mid given back = d.comes in
    (d.schema, d.names, run.attached)

-- ---- what wasn't touched

is_unread : (a b c : Seen) → IsUnread a b → IsUnread b c → IsUnread a c
is_unread a b c first second = (second.0 ∙ first.0, second.1 ∙ first.1)

unread_fetch : (before after : Seen) → OnlyFetched before after → IsUnread before after
unread_fetch before after others = (ap (λ (s : Seen). s.left) others, ap (λ (s : Seen). s.reads.count) others)

unread_write : (before after : Seen) → OnlyWrote before after → IsUnread before after
unread_write before after others = (ap (λ (s : Seen). s.left) others, ap (λ (s : Seen). s.reads.count) others)

unread_same : (before after : Seen) → after ≡ before → IsUnread before after
unread_same before after is = (ap (λ (s : Seen). s.left) is, ap (λ (s : Seen). s.reads.count) is)

unread_text : (e : End) (text : List ℕ) (before after : Seen) → TextComes text e before after → IsUnread before after
unread_text end.Done text before after comes = unread_write before after comes.1
unread_text end.Usage text before after comes = absurd comes
unread_text (end.Refused why) text before after comes = absurd comes
unread_text end.FetchFault text before after comes = absurd comes
unread_text end.ReadFault text before after comes = absurd comes
unread_text end.WriteFault text before after comes = unread_write before after comes.1
unread_text end.Memory text before after comes = absurd comes
unread_text (end.ConnectorFault first last) text before after comes = absurd comes
unread_text end.LayoutDiffers text before after comes = absurd comes
unread_text end.LongInput text before after comes = absurd comes

unread_layout : (e : End) (schema : Schema) (before after : Seen) → LayoutComes schema e before after → IsUnread before after
unread_layout end.Done schema before after comes = unread_write before after comes.1
unread_layout end.Usage schema before after comes = absurd comes
unread_layout (end.Refused why) schema before after comes = absurd comes
unread_layout end.FetchFault schema before after comes = absurd comes
unread_layout end.ReadFault schema before after comes = absurd comes
unread_layout end.WriteFault schema before after comes = unread_write before after comes.1
unread_layout end.Memory schema before after comes = unread_same before after comes
unread_layout (end.ConnectorFault first last) schema before after comes = absurd comes
unread_layout end.LayoutDiffers schema before after comes = absurd comes
unread_layout end.LongInput schema before after comes = absurd comes

unread_schema : (e : End) (words : List (List ℕ)) (before mid : Seen) (given back : Connected) (same : Type 0) → ReadsAlone words → WithSchema e words before mid given back same → IsUnread before mid
unread_schema e words before mid given back same alone c = is_unread before c.fetched mid (unread_fetch before c.fetched c.fetch) (by_command c.asked c.names.1 c.comes)
  where
    by_command : (asked : Command) → command_of words ≡ Some (asked, c.names.0) → SchemaComes asked e c.schema c.fetched mid given back same → IsUnread c.fetched mid
    by_command command.Run is comes = absurd (not_run words command.Run c.names.0 is alone refl)
    by_command command.Validate is comes = unread_text e _ c.fetched mid comes.0
    by_command command.Layout is comes = unread_layout e c.schema c.fetched mid comes.0

unread_all : (e : End) (words : List (List ℕ)) (before mid : Seen) (given back : Connected) (same : Type 0) → ReadsAlone words → Comes e words before mid given back same → IsUnread before mid
unread_all end.Done words before mid given back same alone comes = unread_schema end.Done words before mid given back same alone comes
unread_all end.Usage words before mid given back same alone comes = unread_same before mid comes.1
unread_all (end.Refused why) words before mid given back same alone comes = unread_fetch before mid comes.1
unread_all end.FetchFault words before mid given back same alone comes = unread_fetch before mid comes.0.1
unread_all end.ReadFault words before mid given back same alone comes = unread_schema end.ReadFault words before mid given back same alone comes
unread_all end.WriteFault words before mid given back same alone comes = unread_schema end.WriteFault words before mid given back same alone comes
unread_all end.Memory words before mid given back same alone comes = either comes
  where
    either : Comes end.Memory words before mid given back same → IsUnread before mid
    either (inl asked) = unread_fetch before mid asked.1
    either (inr whole) = unread_schema end.Memory words before mid given back same alone whole
unread_all (end.ConnectorFault first last) words before mid given back same alone comes = unread_schema (end.ConnectorFault first last) words before mid given back same alone comes
unread_all end.LayoutDiffers words before mid given back same alone comes = unread_schema end.LayoutDiffers words before mid given back same alone comes
unread_all end.LongInput words before mid given back same alone comes = unread_schema end.LongInput words before mid given back same alone comes

pub still : (words : List (List ℕ)) (before after : Seen) (given back : Connected) (same : Type 0) (status : ℕ) → Ends words before after given back same status → ReadsAlone words → IsUnread before after
still words before after given back same status r alone = is_unread before r.mid after (unread_all r.ended words before r.mid given back same alone r.comes) (unread_write r.mid after r.prints.others)

-- a command that reads the schema alone hands the connector back as it was
alone_apart : (e : End) (words : List (List ℕ)) (before mid : Seen) (given back : Connected) (same : Type 0) → WithSchema e words before mid given back same → ReadsAlone words → same
alone_apart e words before mid given back same c alone = by_command c.asked c.names.1 c.comes
  where
    by_command : (asked : Command) → command_of words ≡ Some (asked, c.names.0) → SchemaComes asked e c.schema c.fetched mid given back same → same
    by_command command.Run is comes = absurd (not_run words command.Run c.names.0 is alone refl)
    by_command command.Validate is comes = comes.1
    by_command command.Layout is comes = comes.1

read_alone : (status : ℕ) (words : List (List ℕ)) → (status ≡ 2 → ⊥) → (status ≡ 3 → ⊥) → IsApart words status → ReadsAlone words
read_alone status words two three (inl is) = absurd (two is)
read_alone status words two three (inr (inl is)) = absurd (three is)
read_alone status words two three (inr (inr alone)) = alone

as_it_was : (e : End) (words : List (List ℕ)) (before mid : Seen) (given back : Connected) (same : Type 0) (status : ℕ) → status ≡ status_of e → Comes e words before mid given back same → IsApart words status → same
as_it_was end.Done words before mid given back same status is comes apart = alone_apart end.Done words before mid given back same comes (read_alone status words (λ two. omega (arith, is, two)) (λ three. omega (arith, is, three)) apart)
as_it_was end.Usage words before mid given back same status is comes apart = comes.2
as_it_was (end.Refused why) words before mid given back same status is comes apart = comes.2
as_it_was end.FetchFault words before mid given back same status is comes apart = comes.0.2
as_it_was end.ReadFault words before mid given back same status is comes apart = alone_apart end.ReadFault words before mid given back same comes (read_alone status words (λ two. omega (arith, is, two)) (λ three. omega (arith, is, three)) apart)
as_it_was end.WriteFault words before mid given back same status is comes apart = alone_apart end.WriteFault words before mid given back same comes (read_alone status words (λ two. omega (arith, is, two)) (λ three. omega (arith, is, three)) apart)
as_it_was end.Memory words before mid given back same status is comes apart = either comes
  where
    either : Comes end.Memory words before mid given back same → same
    either (inl asked) = asked.2
    either (inr whole) = alone_apart end.Memory words before mid given back same whole (read_alone status words (λ two. omega (arith, is, two)) (λ three. omega (arith, is, three)) apart)
as_it_was (end.ConnectorFault first last) words before mid given back same status is comes apart = alone_apart (end.ConnectorFault first last) words before mid given back same comes (read_alone status words (λ two. omega (arith, is, two)) (λ three. omega (arith, is, three)) apart)
as_it_was end.LayoutDiffers words before mid given back same status is comes apart = alone_apart end.LayoutDiffers words before mid given back same comes (read_alone status words (λ two. omega (arith, is, two)) (λ three. omega (arith, is, three)) apart)
as_it_was end.LongInput words before mid given back same status is comes apart = alone_apart end.LongInput words before mid given back same comes (read_alone status words (λ two. omega (arith, is, two)) (λ three. omega (arith, is, three)) apart)

pub apart : (words : List (List ℕ)) (before after : Seen) (given back : Connected) (same : Type 0) (status : ℕ) → Ends words before after given back same status → IsApart words status → same
apart words before after given back same status r is = as_it_was r.ended words before r.mid given back same status r.status_is r.comes is

-- ---- the longest input

over_long : (most : ℕ) (left from : Option (List ℕ)) (read : List ℕ) → IfSome left (λ l. from ≡ Some (read ++ l)) → length read ≡ most + 1 → IfSome left (λ unread. IsSomeAnd from (λ input. most < length input))
over_long most None from read source long = tt
over_long most (Some l) from read source long = subst (λ f. IsSomeAnd f (λ input. most < length input)) (sym source) (omega (arith, length-append read l, long))

long_run : (words : List (List ℕ)) (before mid after : Seen) (given back : Connected) (same : Type 0) → OnlyWrote mid after → WithSchema end.LongInput words before mid given back same → IsLong before after
long_run words before mid after given back same others c = by_command c.asked c.comes
  where
    by_command : (asked : Command) → SchemaComes asked end.LongInput c.schema c.fetched mid given back same → IsLong before after
    by_command command.Run run =
        subst (λ l. IfSome l (λ unread. IsSomeAnd before.left (λ input. longest_input < length input))) (sym (ap (λ (s : Seen). s.left) others))
        (subst (λ f. IfSome mid.left (λ unread. IsSomeAnd f (λ input. longest_input < length input))) (ap (λ (s : Seen). s.left) c.fetch) (over_long longest_input mid.left c.fetched.left run.ran.read run.ran.source run.ran.ends.2))
    by_command command.Validate comes = absurd comes.0
    by_command command.Layout comes = absurd comes.0

at_limit : (e : End) (words : List (List ℕ)) (before mid after : Seen) (given back : Connected) (same : Type 0) → 7 ≡ status_of e → OnlyWrote mid after → Comes e words before mid given back same → IsLong before after
at_limit end.Done words before mid after given back same is others comes = absurd (omega (arith, is))
at_limit end.Usage words before mid after given back same is others comes = absurd (omega (arith, is))
at_limit (end.Refused why) words before mid after given back same is others comes = absurd (omega (arith, is))
at_limit end.FetchFault words before mid after given back same is others comes = absurd (omega (arith, is))
at_limit end.ReadFault words before mid after given back same is others comes = absurd (omega (arith, is))
at_limit end.WriteFault words before mid after given back same is others comes = absurd (omega (arith, is))
at_limit end.Memory words before mid after given back same is others comes = absurd (omega (arith, is))
at_limit (end.ConnectorFault first last) words before mid after given back same is others comes = absurd (omega (arith, is))
at_limit end.LayoutDiffers words before mid after given back same is others comes = absurd (omega (arith, is))
at_limit end.LongInput words before mid after given back same is others comes = long_run words before mid after given back same others comes

pub limit : (words : List (List ℕ)) (before after : Seen) (given back : Connected) (same : Type 0) (status : ℕ) → Ends words before after given back same status → status ≡ 7 → IsLong before after
limit words before after given back same status r seven = at_limit r.ended words before r.mid after given back same (sym seven ∙ r.status_is) r.prints.others r.comes

-- ---- faults

at_calm : (before mid after : Seen) → EndsFor end.Done before mid → Prints (line_of end.Done) mid after → IsCalm before after
at_calm before mid after ends prints = record {
  fetches = ap (λ (s : Seen). s.fetches.count) prints.others ∙ ends.fetch.still (λ f. f);
  reads = ap (λ (s : Seen). s.reads.count) prints.others ∙ ends.read.counted.still (λ f. f);
  writes = prints.cause.counted.still (λ (less : prints.count < 0). omega (arith, less)) ∙ ends.write.counted.still (λ f. f);
}

pub calm : (words : List (List ℕ)) (before after : Seen) (given back : Connected) (same : Type 0) (status : ℕ) → Ends words before after given back same status → status ≡ 0 → IsCalm before after
calm words before after given back same status r none =
    let done = at_done r.ended (sym none ∙ r.status_is) in
    at_calm before r.mid after (subst (λ x. EndsFor x before r.mid) done r.causes) (subst (λ x. Prints (line_of x) r.mid after) done r.prints)

pub fault : (words : List (List ℕ)) (before after : Seen) (given back : Connected) (same : Type 0) (status : ℕ) → Ends words before after given back same status → status ≡ 4 → HasFault before after
fault words before after given back same status r four = record { failed = r.ended; mid = r.mid; is_fault = at_fault r.ended (sym four ∙ r.status_is); causes = r.causes; prints = r.prints }

at_steady : (e : End) (words : List (List ℕ)) (before mid : Seen) (given back : Connected) (same : Type 0) → IsSteady before → HasSchemaFile words before.files → Comes e words before mid given back same → EndsFor e before mid → 4 ≡ status_of e → ⊥
at_steady end.Done words before mid given back same steady has comes ends is = omega (arith, is)
at_steady end.Usage words before mid given back same steady has comes ends is = omega (arith, is)
at_steady (end.Refused why) words before mid given back same steady has comes ends is = omega (arith, is)
at_steady end.FetchFault words before mid given back same steady has comes ends is = comes.1 steady.fetches has
at_steady end.ReadFault words before mid given back same steady has comes ends is = (ends.read.never steady.reads).0 tt
at_steady end.WriteFault words before mid given back same steady has comes ends is = (ends.write.never steady.writes).0 tt
at_steady end.Memory words before mid given back same steady has comes ends is = omega (arith, is)
at_steady (end.ConnectorFault first last) words before mid given back same steady has comes ends is = omega (arith, is)
at_steady end.LayoutDiffers words before mid given back same steady has comes ends is = omega (arith, is)
at_steady end.LongInput words before mid given back same steady has comes ends is = omega (arith, is)

pub steady : (words : List (List ℕ)) (before after : Seen) (given back : Connected) (same : Type 0) (status : ℕ) → Ends words before after given back same status → IsSteady before → FaultsOf words before status
steady words before after given back same status r is = λ has four. at_steady r.ended words before r.mid given back same is has r.comes r.causes (sym four ∙ r.status_is)

-- ---- a connector that wasn't opened

abbrev is_failed : Result (Unit {0}) AttachFault → Bool
is_failed (Ok done) = false
is_failed (Err attach.Failed) = true
is_failed (Err (attach.Layout kept wanted)) = false
is_failed (Err attach.Memory) = false

abbrev IsFailure : Result (Unit {0}) AttachFault → Type 0
IsFailure result = result ≡ Err attach.Failed

unopened : (schema : Schema) (given back : Connected) (why : AttachFault) → AttachesFor schema given back (Err why) → IsUnopened given back
unopened schema given back why a = record { attached = a.refused.0; keeps = a.refused.1; misfits = a.misfits; calls = a.calls }

failed_open : (schema : Schema) (given back : Connected) → AttachesFor schema given back (Err attach.Failed) → FailsToOpen given back
failed_open schema given back a = cause_as given.faults back.faults (IsFailure (Err attach.Failed)) (Unit {0}) (λ f. tt) (λ f. refl) a.cause

laid_otherwise : (schema : Schema) (given back : Connected) (kept wanted : List ℕ) → AttachesFor schema given back (Err (attach.Layout kept wanted)) → IsLaidOtherwise schema given back
laid_otherwise schema given back kept wanted a = (
  kept,
  subst (KeepsOther given.keeps kept) a.other.0 a.other.1,
  cause_as given.faults back.faults (IsFailure (Err (attach.Layout kept wanted))) ⊥ (λ is. true≢false (ap is_failed (sym is))) (λ f. absurd f) a.cause,
)

-- the run that ended so
record TheRun (e : End) (words : List (List ℕ)) (before after : Seen) (given back : Connected) : Type 0 where
  pub schema : Schema
  pub fetched : Seen
  pub names : NamesSchema command.Run words before.files schema
  pub comes : RunComes e schema fetched after given back

the_run : (e : End) (words : List (List ℕ)) (before mid : Seen) (given back : Connected) (same : Type 0) → ((text : List ℕ) (b a : Seen) → TextComes text e b a → ⊥) → ((schema : Schema) (b a : Seen) → LayoutComes schema e b a → ⊥) → WithSchema e words before mid given back same → TheRun e words before mid given back
the_run e words before mid given back same no_text no_layout c = by_command c.asked c.names c.comes
  where
    by_command : (asked : Command) → NamesSchema asked words before.files c.schema → SchemaComes asked e c.schema c.fetched mid given back same → TheRun e words before mid given back
    by_command command.Run names comes = record { schema = c.schema; fetched = c.fetched; names = names; comes = comes }
    by_command command.Validate names comes = absurd (no_text _ c.fetched mid comes.0)
    by_command command.Layout names comes = absurd (no_layout c.schema c.fetched mid comes.0)

shut_fault : (first last : ℕ) (words : List (List ℕ)) (before mid : Seen) (given back : Connected) (same : Type 0) → WithSchema (end.ConnectorFault first last) words before mid given back same → IsUnopened given back × FailsToOpen given back
shut_fault first last words before mid given back same c =
    let run = the_run (end.ConnectorFault first last) words before mid given back same (λ text b a t. t) (λ schema b a t. t) c in
    (unopened run.schema given back attach.Failed run.comes.0.0, failed_open run.schema given back run.comes.0.0)

shut_layout : (words : List (List ℕ)) (before mid : Seen) (given back : Connected) (same : Type 0) → WithSchema end.LayoutDiffers words before mid given back same → IsUnopened given back × ((schema : Schema) × NamesSchema command.Run words before.files schema × IsLaidOtherwise schema given back)
shut_layout words before mid given back same c =
    let run = the_run end.LayoutDiffers words before mid given back same (λ text b a t. t) (λ schema b a t. t) c in
    let other = run.comes.0 in
    (unopened run.schema given back (attach.Layout other.0 other.1) other.2, (run.schema, run.names, laid_otherwise run.schema given back other.0 other.1 other.2))

at_shut : (e : End) (words : List (List ℕ)) (before mid : Seen) (given back : Connected) (same : Type 0) → 6 ≡ status_of e → Comes e words before mid given back same → IsShut words before given back
at_shut end.Done words before mid given back same is comes = absurd (omega (arith, is))
at_shut end.Usage words before mid given back same is comes = absurd (omega (arith, is))
at_shut (end.Refused why) words before mid given back same is comes = absurd (omega (arith, is))
at_shut end.FetchFault words before mid given back same is comes = absurd (omega (arith, is))
at_shut end.ReadFault words before mid given back same is comes = absurd (omega (arith, is))
at_shut end.WriteFault words before mid given back same is comes = absurd (omega (arith, is))
at_shut end.Memory words before mid given back same is comes = absurd (omega (arith, is))
at_shut (end.ConnectorFault first last) words before mid given back same is comes = let s = shut_fault first last words before mid given back same comes in record { unopened = s.0; why = inl s.1 }
at_shut end.LayoutDiffers words before mid given back same is comes = let s = shut_layout words before mid given back same comes in record { unopened = s.0; why = inr s.1 }
at_shut end.LongInput words before mid given back same is comes = absurd (omega (arith, is))

pub shut : (words : List (List ℕ)) (before after : Seen) (given back : Connected) (same : Type 0) (status : ℕ) → Ends words before after given back same status → status ≡ 6 → IsShut words before given back
shut words before after given back same status r six = at_shut r.ended words before r.mid given back same (sym six ∙ r.status_is) r.comes

-- ---- the text of the file decides

-- a text that has a schema isn't refused
not_both : (why : Refusal) (text : List ℕ) (schema : Schema) → Refuses why text → HasSchema text schema → ⊥
not_both (refusal.NotUtf8 at) text schema refused has = tree_or_fault_only text has.0 (textual.NotUtf8 at) has.1 refused
not_both (refusal.BadCharacter at) text schema refused has = tree_or_fault_only text has.0 (textual.BadCharacter at) has.1 refused
not_both (refusal.Unclosed at) text schema refused has = tree_or_fault_only text has.0 (textual.Unclosed at) has.1 refused
not_both (refusal.Unexpected at) text schema refused has = tree_or_fault_only text has.0 (textual.Unexpected at) has.1 refused
not_both (refusal.TooLong at) text schema refused has = tree_or_fault_only text has.0 (textual.TooLong at) has.1 refused
not_both (refusal.Broken rule at) text schema refused has =
    true≢false (ap is_some (sym refused.2 ∙ ap first_breach (one_tree_only text refused.0 has.0 refused.1 has.1) ∙ has.2))

-- of the file that is offered all that is told holds
held : (P Q : List ℕ → Type 0) (words : List (List ℕ)) (files : Option Files) (asked : Command) (name : List ℕ) → command_of words ≡ Some (asked, name) → FileHolds files name P → (offer : Offers words files Q) → P offer.3
held P Q words files asked name named holds offer =
    let same : name ≡ offer.2 = ap (λ (o : Option (Command × List ℕ)). (unwrap_or o (asked, name)).1) (sym named ∙ offer.5) in
    let here = subst (λ n. FileHolds files n P) same holds in
    let there = subst (λ f. FileHolds f offer.2 P) offer.4 here in
    subst (λ o. IsSomeAnd o P) offer.6 there

no_words : (Q : List ℕ → Type 0) (words : List (List ℕ)) (files : Option Files) → command_of words ≡ None → Offers words files Q → ⊥
no_words Q words files none offer = named words offer.1 offer.2 offer.5 none

run_asked : (e : End) (words : List (List ℕ)) (before after : Seen) (given back : Connected) → TheRun e words before after given back → Asks command.Run words
run_asked e words before after given back run = (run.names.0, run.names.1)

long_asked : (words : List (List ℕ)) (before mid : Seen) (given back : Connected) (same : Type 0) → WithSchema end.LongInput words before mid given back same → Asks command.Run words
long_asked words before mid given back same c = run_asked end.LongInput words before mid given back (the_run end.LongInput words before mid given back same (λ text b a t. t) (λ schema b a t. t) c)

fault_asked : (first last : ℕ) (words : List (List ℕ)) (before mid : Seen) (given back : Connected) (same : Type 0) → WithSchema (end.ConnectorFault first last) words before mid given back same → Asks command.Run words
fault_asked first last words before mid given back same c = run_asked (end.ConnectorFault first last) words before mid given back (the_run (end.ConnectorFault first last) words before mid given back same (λ text b a t. t) (λ schema b a t. t) c)

layout_asked : (words : List (List ℕ)) (before mid : Seen) (given back : Connected) (same : Type 0) → WithSchema end.LayoutDiffers words before mid given back same → Asks command.Run words
layout_asked words before mid given back same c = run_asked end.LayoutDiffers words before mid given back (the_run end.LayoutDiffers words before mid given back same (λ text b a t. t) (λ schema b a t. t) c)

-- a text that has a schema is accepted
goes_well : (e : End) (words : List (List ℕ)) (before mid : Seen) (given back : Connected) (same : Type 0) (status : ℕ) (schema : Schema) → status ≡ status_of e → Comes e words before mid given back same → (status ≡ 4 → ⊥) → Offers words before.files (λ text. HasSchema text schema) → GoesWell words status
goes_well end.Done words before mid given back same status schema is comes sure offer = inl is
goes_well end.Usage words before mid given back same status schema is comes sure offer = absurd (no_words (λ text. HasSchema text schema) words before.files comes.0 offer)
goes_well (end.Refused why) words before mid given back same status schema is comes sure offer = absurd (not_both why offer.3 schema (held (Refuses why) (λ text. HasSchema text schema) words before.files comes.0.0 comes.0.1 comes.0.2 comes.0.3 offer) offer.7)
goes_well end.FetchFault words before mid given back same status schema is comes sure offer = absurd (sure is)
goes_well end.ReadFault words before mid given back same status schema is comes sure offer = absurd (sure is)
goes_well end.WriteFault words before mid given back same status schema is comes sure offer = absurd (sure is)
goes_well end.Memory words before mid given back same status schema is comes sure offer = inr (inl is)
goes_well (end.ConnectorFault first last) words before mid given back same status schema is comes sure offer = inr (inr (inl is, fault_asked first last words before mid given back same comes))
goes_well end.LayoutDiffers words before mid given back same status schema is comes sure offer = inr (inr (inl is, layout_asked words before mid given back same comes))
goes_well end.LongInput words before mid given back same status schema is comes sure offer = inr (inr (inr is, long_asked words before mid given back same comes))

-- a host that has the file of an offer
offered : (Q : List ℕ → Type 0) (words : List (List ℕ)) (files : Option Files) → Offers words files Q → HasSchemaFile words files
offered Q words files offer = (offer.0, offer.1, offer.2, offer.3, offer.4, offer.5, offer.6)

pub accepts : (words : List (List ℕ)) (before after : Seen) (given back : Connected) (same : Type 0) (status : ℕ) → Ends words before after given back same status → IsSteady before → AcceptsSchema words before status
accepts words before after given back same status r is = λ schema offer.
    goes_well r.ended words before r.mid given back same status schema r.status_is r.comes (steady words before after given back same status r is (offered (λ text. HasSchema text schema) words before.files offer)) offer

no_schema : (e : End) (words : List (List ℕ)) (before mid : Seen) (given back : Connected) (same : Type 0) (why : Refusal) → WithSchema e words before mid given back same → Offers words before.files (Refuses why) → ⊥
no_schema e words before mid given back same why c offer =
    not_both why offer.3 c.schema offer.7 (held (λ text. HasSchema text c.schema) (Refuses why) words before.files c.asked c.names.0 c.names.1 c.names.2 offer)

-- a text that is to be refused is refused
is_refused : (e : End) (words : List (List ℕ)) (before mid : Seen) (given back : Connected) (same : Type 0) (status : ℕ) (why : Refusal) → status ≡ status_of e → Comes e words before mid given back same → (status ≡ 4 → ⊥) → Offers words before.files (Refuses why) → (status ≡ 3) ⊎ (status ≡ 5)
is_refused end.Done words before mid given back same status why is comes sure offer = absurd (no_schema end.Done words before mid given back same why comes offer)
is_refused end.Usage words before mid given back same status why is comes sure offer = absurd (no_words (Refuses why) words before.files comes.0 offer)
is_refused (end.Refused other) words before mid given back same status why is comes sure offer = inl is
is_refused end.FetchFault words before mid given back same status why is comes sure offer = absurd (sure is)
is_refused end.ReadFault words before mid given back same status why is comes sure offer = absurd (sure is)
is_refused end.WriteFault words before mid given back same status why is comes sure offer = absurd (sure is)
is_refused end.Memory words before mid given back same status why is comes sure offer = inr is
is_refused (end.ConnectorFault first last) words before mid given back same status why is comes sure offer = absurd (no_schema (end.ConnectorFault first last) words before mid given back same why comes offer)
is_refused end.LayoutDiffers words before mid given back same status why is comes sure offer = absurd (no_schema end.LayoutDiffers words before mid given back same why comes offer)
is_refused end.LongInput words before mid given back same status why is comes sure offer = absurd (no_schema end.LongInput words before mid given back same why comes offer)

pub refuses : (words : List (List ℕ)) (before after : Seen) (given back : Connected) (same : Type 0) (status : ℕ) → Ends words before after given back same status → IsSteady before → RefusesText words before status
refuses words before after given back same status r is = λ why offer.
    is_refused r.ended words before r.mid given back same status why r.status_is r.comes (steady words before after given back same status r is (offered (Refuses why) words before.files offer)) offer

-- a text has one schema
one_schema : (text : List ℕ) (a b : Schema) → HasSchema text a → HasSchema text b → a ≡ b
one_schema text a b first second = first.3 ∙ ap schema_of (one_tree_only text first.0 second.0 first.1 second.1) ∙ sym second.3

not_otherwise : (given : Connected) (schema : Schema) (kept : List ℕ) → IsLaidOut schema given → KeepsOther given.keeps kept (laid_out schema) → ⊥
not_otherwise given schema kept laid other = by_keeps given.keeps laid other
  where
    by_keeps : (keeps : Option (Option Kept)) → IsSomeAnd keeps (λ found. HasText found (laid_out schema)) → KeepsOther keeps kept (laid_out schema) → ⊥
    by_keeps None laid differs = laid
    by_keeps (Some None) laid differs = differs.1
    by_keeps (Some (Some found)) laid differs = differs.0 (sym differs.1 ∙ laid)

is_opened : (words : List (List ℕ)) (before : Seen) (given back : Connected) → IsShut words before given back → given.faults.may_fail ≡ false → (schema : Schema) → Offers words before.files (λ text. HasSchema text schema) → IsLaidOut schema given → ⊥
is_opened words before given back shut sure schema offer laid = by_why shut.why
  where
    by_why : FailsToOpen given back ⊎ ((other : Schema) × NamesSchema command.Run words before.files other × IsLaidOtherwise other given back) → ⊥
    by_why (inl failed) = (failed.never sure).0 tt
    by_why (inr other) =
        let same = one_schema offer.3 other.0 schema (held (λ text. HasSchema text other.0) (λ text. HasSchema text schema) words before.files command.Run other.1.0 other.1.1 other.1.2 offer) offer.7 in
        not_otherwise given schema other.2.0 laid (subst (λ s. KeepsOther given.keeps other.2.0 (laid_out s)) same other.2.1)

-- a connector that can't fail, and keeps nothing or what is laid out so, is opened
pub opens : (words : List (List ℕ)) (before after : Seen) (given back : Connected) (same : Type 0) (status : ℕ) → Ends words before after given back same status → OpensSchema words before given status
opens words before after given back same status r = λ sure schema offer laid six. is_opened words before given back (shut words before after given back same status r six) sure schema offer laid
