-- Each read of a command comes when all whole lines are answered.
use Rattle.std.proofs.Common.{◌≡◌, inl, inr, ℕ, List, ◌++◌, Some, ap, ◌∙◌, subst, IfSome, IsSomeAnd}
use Rattle.qe_base.specs.Outside.{OnlyFetched, Seen, Turn}
use Rattle.qe_base.specs.Schemas.{Schema}
use Rattle.qe_history.specs.Exchange.{LineOutcome, bytes_of}
use Rattle.qe_cli.specs.Command.{Comes, Ends, LayoutComes, NamesSchema, RunComes, RunsOver, SchemaComes, TextComes, WithSchema}
use Rattle.qe_cli.specs.Says.{AnswersAtOnce, ReadsOn}
use Rattle.qe_cli.specs.declared.End.{End}
use Rattle.qe_cli.specs.declared.End.TheVariants as end
use Rattle.qe_cli.specs.declared.words.Command.{Command}
use Rattle.qe_cli.specs.declared.words.Command.TheVariants as command
use Rattle.qe_node.specs.Run.{AtEachTurn, IsPrompt}
use Rattle.qe_node.specs.declared.LinesEnd.{LinesEnd}
use Rattle.qe_node.specs.declared.LinesEnd.TheVariants as lines
use Rattle.qe_node.proofs.Prompt.{Told, no_turn, still_turns, turns_weaker}
use Rattle.qe_view.specs.Attached.{Connected}

-- no read came
unread : (P : Turn → Type 0) (before after : Seen) → after.turns ≡ before.turns → AtEachTurn P before after
unread P before after same = still_turns P before before after same (no_turn P before)

-- what holds of a read since a file was fetched holds since before that
prompt_before : (schema : Schema) (read : List ℕ) (outcomes : List LineOutcome) (before fetched : Seen) (turn : Turn) → OnlyFetched before fetched → IsPrompt schema read outcomes fetched turn → IsPrompt schema read outcomes before turn
prompt_before schema read outcomes before fetched turn fetch p = record {
  read = p.read;
  more = p.more;
  bytes = p.bytes;
  source = subst (λ l. IfSome turn.left (λ left. l ≡ Some (p.read ++ left))) (ap (λ (s : Seen). s.left) fetch) p.source;
  answered = p.answered;
  later = p.later;
  first = p.first;
  come = p.come;
  written = subst (λ t. IfSome turn.taken (λ taken. IsSomeAnd t (λ old. taken ≡ old ++ bytes_of schema p.answered))) (ap (λ (s : Seen). s.taken) fetch) p.written;
}

-- the lines of a run
over_lines : (l : LinesEnd) (words : List (List ℕ)) (schema : Schema) (before fetched mid : Seen) (given back : Connected) → NamesSchema command.Run words before.files schema → OnlyFetched before fetched → RunsOver l schema fetched mid given back
    → AtEachTurn (ReadsOn words before) before mid
over_lines l words schema before fetched mid given back names fetch runs =
    let P = IsPrompt schema runs.ran.read runs.ran.outcomes fetched in
    let since : AtEachTurn P before mid = subst (λ t. Told P t mid.turns) (ap (λ (s : Seen). s.turns) fetch) runs.ran.prompt in
    turns_weaker P (ReadsOn words before) before mid (λ turn p. (schema, names, runs.ran.read, runs.ran.outcomes, prompt_before schema runs.ran.read runs.ran.outcomes before fetched turn fetch p)) since

over_run : (e : End) (words : List (List ℕ)) (schema : Schema) (before fetched mid : Seen) (given back : Connected) → NamesSchema command.Run words before.files schema → OnlyFetched before fetched → RunComes e schema fetched mid given back
    → AtEachTurn (ReadsOn words before) before mid
over_run end.Done words schema before fetched mid given back names fetch comes = over_lines lines.Done words schema before fetched mid given back names fetch comes
over_run end.Usage words schema before fetched mid given back names fetch comes = unread (ReadsOn words before) before mid (ap (λ (s : Seen). s.turns) comes.1 ∙ ap (λ (s : Seen). s.turns) fetch)
over_run (end.Refused refusal) words schema before fetched mid given back names fetch comes = unread (ReadsOn words before) before mid (ap (λ (s : Seen). s.turns) comes.1 ∙ ap (λ (s : Seen). s.turns) fetch)
over_run end.FetchFault words schema before fetched mid given back names fetch comes = unread (ReadsOn words before) before mid (ap (λ (s : Seen). s.turns) comes.1 ∙ ap (λ (s : Seen). s.turns) fetch)
over_run end.ReadFault words schema before fetched mid given back names fetch comes = over_lines lines.ReadFault words schema before fetched mid given back names fetch comes
over_run end.WriteFault words schema before fetched mid given back names fetch comes = over_lines lines.WriteFault words schema before fetched mid given back names fetch comes
over_run end.Memory words schema before fetched mid given back names fetch (inl idle) = unread (ReadsOn words before) before mid (ap (λ (s : Seen). s.turns) idle.1 ∙ ap (λ (s : Seen). s.turns) fetch)
over_run end.Memory words schema before fetched mid given back names fetch (inr runs) = over_lines lines.Memory words schema before fetched mid given back names fetch runs
over_run (end.ConnectorFault first last) words schema before fetched mid given back names fetch comes = unread (ReadsOn words before) before mid (ap (λ (s : Seen). s.turns) comes.1 ∙ ap (λ (s : Seen). s.turns) fetch)
over_run end.LayoutDiffers words schema before fetched mid given back names fetch comes = unread (ReadsOn words before) before mid (ap (λ (s : Seen). s.turns) comes.1 ∙ ap (λ (s : Seen). s.turns) fetch)
over_run end.LongInput words schema before fetched mid given back names fetch comes = over_lines lines.LongInput words schema before fetched mid given back names fetch comes

still_text : (e : End) (text : List ℕ) (before after : Seen) → TextComes text e before after → after.turns ≡ before.turns
still_text end.Done text before after comes = ap (λ (s : Seen). s.turns) comes.1
still_text end.Usage text before after comes = absurd comes
still_text (end.Refused refusal) text before after comes = absurd comes
still_text end.FetchFault text before after comes = absurd comes
still_text end.ReadFault text before after comes = absurd comes
still_text end.WriteFault text before after comes = ap (λ (s : Seen). s.turns) comes.1
still_text end.Memory text before after comes = absurd comes
still_text (end.ConnectorFault first last) text before after comes = absurd comes
still_text end.LayoutDiffers text before after comes = absurd comes
still_text end.LongInput text before after comes = absurd comes

still_layout : (e : End) (schema : Schema) (before after : Seen) → LayoutComes schema e before after → after.turns ≡ before.turns
still_layout end.Done schema before after comes = ap (λ (s : Seen). s.turns) comes.1
still_layout end.Usage schema before after comes = absurd comes
still_layout (end.Refused refusal) schema before after comes = absurd comes
still_layout end.FetchFault schema before after comes = absurd comes
still_layout end.ReadFault schema before after comes = absurd comes
still_layout end.WriteFault schema before after comes = ap (λ (s : Seen). s.turns) comes.1
still_layout end.Memory schema before after comes = ap (λ (s : Seen). s.turns) comes
still_layout (end.ConnectorFault first last) schema before after comes = absurd comes
still_layout end.LayoutDiffers schema before after comes = absurd comes
still_layout end.LongInput schema before after comes = absurd comes

over_schema : (asked : Command) (e : End) (words : List (List ℕ)) (schema : Schema) (before fetched mid : Seen) (given back : Connected) (same : Type 0) → NamesSchema asked words before.files schema → OnlyFetched before fetched
    → SchemaComes asked e schema fetched mid given back same → AtEachTurn (ReadsOn words before) before mid
over_schema command.Run e words schema before fetched mid given back same names fetch comes = over_run e words schema before fetched mid given back names fetch comes
over_schema command.Validate e words schema before fetched mid given back same names fetch comes = unread (ReadsOn words before) before mid (still_text e _ fetched mid comes.0 ∙ ap (λ (s : Seen). s.turns) fetch)
over_schema command.Layout e words schema before fetched mid given back same names fetch comes = unread (ReadsOn words before) before mid (still_layout e schema fetched mid comes.0 ∙ ap (λ (s : Seen). s.turns) fetch)

with_schema : (e : End) (words : List (List ℕ)) (before mid : Seen) (given back : Connected) (same : Type 0) → WithSchema e words before mid given back same → AtEachTurn (ReadsOn words before) before mid
with_schema e words before mid given back same c = over_schema c.asked e words c.schema before c.fetched mid given back same c.names c.fetch c.comes

fetched_only : (words : List (List ℕ)) (before mid : Seen) → OnlyFetched before mid → AtEachTurn (ReadsOn words before) before mid
fetched_only words before mid fetch = unread (ReadsOn words before) before mid (ap (λ (s : Seen). s.turns) fetch)

over_command : (e : End) (words : List (List ℕ)) (before mid : Seen) (given back : Connected) (same : Type 0) → Comes e words before mid given back same → AtEachTurn (ReadsOn words before) before mid
over_command end.Done words before mid given back same comes = with_schema end.Done words before mid given back same comes
over_command end.Usage words before mid given back same comes = unread (ReadsOn words before) before mid (ap (λ (s : Seen). s.turns) comes.1)
over_command (end.Refused refusal) words before mid given back same comes = fetched_only words before mid comes.1
over_command end.FetchFault words before mid given back same comes = fetched_only words before mid comes.0.1
over_command end.ReadFault words before mid given back same comes = with_schema end.ReadFault words before mid given back same comes
over_command end.WriteFault words before mid given back same comes = with_schema end.WriteFault words before mid given back same comes
over_command end.Memory words before mid given back same (inl asked) = fetched_only words before mid asked.1
over_command end.Memory words before mid given back same (inr whole) = with_schema end.Memory words before mid given back same whole
over_command (end.ConnectorFault first last) words before mid given back same comes = with_schema (end.ConnectorFault first last) words before mid given back same comes
over_command end.LayoutDiffers words before mid given back same comes = with_schema end.LayoutDiffers words before mid given back same comes
over_command end.LongInput words before mid given back same comes = with_schema end.LongInput words before mid given back same comes

-- the line of the end is written after all that
pub prompt : (words : List (List ℕ)) (before after : Seen) (given back : Connected) (same : Type 0) (status : ℕ) → Ends words before after given back same status → AnswersAtOnce words before after
prompt words before after given back same status r =
    still_turns (ReadsOn words before) before r.mid after (ap (λ (s : Seen). s.turns) r.prints.others) (over_command r.ended words before r.mid given back same r.comes)
