-- What holds of each read of a run.
use Rattle.std.proofs.Common.{◌≡◌, ℕ, List, [], ◌∷◌, ◌++◌, All, sym, ap, ◌∙◌, subst, append_assoc, append-nil, Option, Some, None, slice_index_or, IfSome, IsSomeAnd}
use Rattle.std.proofs.lemmas.List.Elements.{All-nil, All-push}
use Rattle.qe_base.specs.Outside.{Seen, TakesTurn, Turn, turn_now}
use Rattle.qe_base.specs.Schemas.{Schema}
use Rattle.qe_history.specs.Exchange.{LineOutcome, ComeOf}
use Rattle.qe_history.specs.Lines.{whole_lines_of}
use Rattle.qe_node.specs.Run.{AllWritten, AtEachTurn, IsPrompt}

abbrev pub Told : (Turn → Type 0) → Option (List Turn) → Option (List Turn) → Type 0
Told P before after = IfSome after (λ turns. IsSomeAnd before (λ earlier. (since : List Turn) × (turns ≡ earlier ++ since) × All P since))

told_none : (P : Turn → Type 0) (turns : Option (List Turn)) → Told P turns turns
told_none P None = tt
told_none P (Some turns) = ([], sym (append-nil turns), All-nil P)

told_weaker : (P Q : Turn → Type 0) (a b : Option (List Turn)) → ((turn : Turn) → P turn → Q turn) → Told P a b → Told Q a b
told_weaker P Q a None weaker told = tt
told_weaker P Q None (Some turns) weaker told = absurd told
told_weaker P Q (Some earlier) (Some turns) weaker told = (told.0, told.1, λ k d within. weaker (slice_index_or told.0 k d) (told.2 k d within))

told_more : (P Q : Turn → Type 0) (a b c : Option (List Turn)) (turn : Turn) → ((turn : Turn) → P turn → Q turn) → Told P a b → IfSome c (λ turns. IsSomeAnd b (λ earlier. turns ≡ earlier ++ turn ∷ [])) → Q turn → Told Q a c
told_more P Q a b None turn weaker first second here = tt
told_more P Q a None (Some turns) turn weaker first second here = absurd second
told_more P Q None (Some mid) (Some turns) turn weaker first second here = absurd first
told_more P Q (Some earlier) (Some mid) (Some turns) turn weaker first second here = (
  first.0 ++ turn ∷ [],
  second ∙ ap (λ (l : List Turn). l ++ turn ∷ []) first.1 ∙ append_assoc earlier first.0 (turn ∷ []),
  All-push Q first.0 turn (λ k d within. weaker (slice_index_or first.0 k d) (first.2 k d within)) here,
)

-- no read came
pub no_turn : (P : Turn → Type 0) (before : Seen) → AtEachTurn P before before
no_turn P before = told_none P before.turns

pub still_turns : (P : Turn → Type 0) (before now next : Seen) → next.turns ≡ now.turns → AtEachTurn P before now → AtEachTurn P before next
still_turns P before now next same each = subst (Told P before.turns) (sym same) each

pub turns_weaker : (P Q : Turn → Type 0) (before now : Seen) → ((turn : Turn) → P turn → Q turn) → AtEachTurn P before now → AtEachTurn Q before now
turns_weaker P Q before now weaker each = told_weaker P Q before.turns now.turns weaker each

prompt_more : (schema : Schema) (read more all : List ℕ) (outcomes others outs : List LineOutcome) (before : Seen) (turn : Turn) → all ≡ read ++ more → outs ≡ outcomes ++ others → IsPrompt schema read outcomes before turn → IsPrompt schema all outs before turn
prompt_more schema read more all outcomes others outs before turn all_is outs_is p = record {
  read = p.read;
  more = p.more ++ more;
  bytes = all_is ∙ ap (λ b. b ++ more) p.bytes ∙ append_assoc p.read p.more more;
  source = p.source;
  answered = p.answered;
  later = p.later ++ others;
  first = outs_is ∙ ap (λ (o : List LineOutcome). o ++ others) p.first ∙ append_assoc p.answered p.later others;
  come = p.come;
  written = p.written;
}

-- more was read and answered since
pub turns_before : (schema : Schema) (read more all : List ℕ) (outcomes others outs : List LineOutcome) (before now : Seen) → all ≡ read ++ more → outs ≡ outcomes ++ others → AtEachTurn (IsPrompt schema read outcomes before) before now → AtEachTurn (IsPrompt schema all outs before) before now
turns_before schema read more all outcomes others outs before now all_is outs_is each =
    told_weaker (IsPrompt schema read outcomes before) (IsPrompt schema all outs before) before.turns now.turns (λ turn p. prompt_more schema read more all outcomes others outs before turn all_is outs_is p) each

-- one read more came, when all whole lines were answered
pub turn_more : (schema : Schema) (read more all : List ℕ) (outcomes others outs : List LineOutcome) (before now then : Seen) → all ≡ read ++ more → outs ≡ outcomes ++ others → IfSome now.left (λ left. before.left ≡ Some (read ++ left))
    → ComeOf schema (whole_lines_of read) outcomes → AllWritten schema outcomes before now → TakesTurn now then → AtEachTurn (IsPrompt schema read outcomes before) before now → AtEachTurn (IsPrompt schema all outs before) before then
turn_more schema read more all outcomes others outs before now then all_is outs_is source come written turn each =
    let here : IsPrompt schema all outs before (turn_now now) = record { read = read; more = more; bytes = all_is; source = source; answered = outcomes; later = others; first = outs_is; come = come; written = written } in
    told_more (IsPrompt schema read outcomes before) (IsPrompt schema all outs before) before.turns now.turns then.turns (turn_now now)
    (λ turn p. prompt_more schema read more all outcomes others outs before turn all_is outs_is p) each turn here
