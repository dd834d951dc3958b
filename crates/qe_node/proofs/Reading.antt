-- Reading an input piece by piece.
use Rattle.std.proofs.Common.{◌≡◌, ℕ, zero, suc, ◌+◌, ◌<◌, ◌≤◌, List, [], ◌∷◌, ◌++◌, false, refl, sym, ap, ◌∙◌, subst, append_assoc, append-nil, Option, Some, None, length, take, drop, arith, length-append, is_err, IfSome, ◌↔◌}
use Rattle.std.specs.Prelude.{Result, Ok, Err}
use Rattle.std.proofs.Math.Seq.{take-append_seam}
use Rattle.std.proofs.lemmas.List.{length-take-le, take-append-drop}
use Rattle.qe_base.specs.Outside.{OnlyRead, Seen, TakesTurn}
use Rattle.qe_base.specs.Schemas.{Schema}
use Rattle.qe_base.specs.declared.outside.Failed.{Failed}
use Rattle.qe_history.specs.Exchange.{ComeOf, LineOutcome}
use Rattle.qe_history.specs.Lines.{all_but_last, cut, lines_of, whole_lines_of}
use Rattle.qe_node.specs.Run.{AtEachTurn, IsPrompt, longest_input}
use Rattle.qe_node.specs.Serving.{IsStood}
use Rattle.qe_node.specs.Taking.{RunsOn, Takes, TakesSome, TakesWhole, cuts, end_behind, end_by, filled, has_newline}
use Rattle.qe_node.specs.declared.LinesEnd.TheVariants as ends
use Rattle.qe_node.specs.declared.take.Stop.{Stop}
use Rattle.qe_node.specs.declared.take.Stop.TheVariants as stop
use Rattle.qe_node.proofs.Cutting.{all_but_this, cut_last, filled_more}
use Rattle.qe_node.proofs.Prompt.{no_turn, still_turns, turn_more, turns_before}
use Rattle.qe_node.proofs.Taken.{pieces_more, takes_still, whole_none}
use Rattle.qe_view.specs.Attached.{Connected}

-- These bytes were read, and all whole lines in them were answered, those of each piece before the next read. The bytes
-- beyond are those past the longest input.
pub record IsReading (limit : ℕ) (schema : Schema) (pending : List ℕ) (room : ℕ) (below after : Connected) (place next : ℕ) (before now : Seen) : Type 0 where
  pub read : List ℕ
  pub beyond : List ℕ
  pub whole : TakesWhole schema read pending below after place next before now
  pub source : IfSome now.left (λ left. before.left ≡ Some ((read ++ beyond) ++ left))
  pub count : length read + length beyond + room ≡ limit + 1
  pub none_yet : 0 < room → beyond ≡ []
  pub full : room ≡ 0 → length read ≡ limit
  pub prompt : IsStood schema below place → AtEachTurn (IsPrompt schema read whole.takes.outcomes before) before now

pub itself : (left : Option (List ℕ)) → IfSome left (λ rest. left ≡ Some rest)
itself None = tt
itself (Some rest) = refl

-- before anything is read
pub reading_none : (limit : ℕ) (schema : Schema) (pending : List ℕ) (below : Connected) (place : ℕ) (before : Seen) → pending ≡ [] → IsReading limit schema pending (limit + 1) below below place place before before
reading_none limit schema pending below place before none =
    let whole : TakesWhole schema [] pending below below place place before before =
    subst (λ (p : List ℕ). TakesWhole schema [] p below below place place before before) (sym none) (whole_none schema [] below place before) in record {
      read = [];
      beyond = [];
      whole = whole;
      source = itself before.left;
      count = omega arith;
      none_yet = λ some. refl;
      full = λ is. absurd (omega (arith, is));
      prompt = λ stood. no_turn (IsPrompt schema [] whole.takes.outcomes before) before;
    }

no_length : (beyond : List ℕ) → beyond ≡ [] → length beyond ≡ 0
no_length beyond is = ap length is

-- as long as there is room nothing lies beyond
within_source : (limit : ℕ) (schema : Schema) (pending : List ℕ) (room : ℕ) (below after : Connected) (place next : ℕ) (before now : Seen) → 0 < room → (r : IsReading limit schema pending room below after place next before now)
    → IfSome now.left (λ left. before.left ≡ Some (r.read ++ left))
within_source limit schema pending room below after place next before now some r =
    subst (λ (l : List ℕ). IfSome now.left (λ left. before.left ≡ Some (l ++ left))) (ap (λ b. r.read ++ b) (r.none_yet some) ∙ append-nil r.read) r.source

-- what the next read took from the input
more_source : (before now next : Option (List ℕ)) (read front bytes : List ℕ) → bytes ≡ front → IfSome now (λ left. before ≡ Some (read ++ left)) → IfSome next (λ rest. now ≡ Some (front ++ rest)) → IfSome next (λ left. before ≡ Some ((read ++ bytes) ++ left))
more_source before now None read front bytes is first second = tt
more_source before now (Some rest) read front bytes is first second =
    subst (λ (l : Option (List ℕ)). IfSome l (λ left. before ≡ Some (read ++ left))) second first ∙ ap (λ f. Some (read ++ (f ++ rest))) (sym is) ∙ ap (λ l. Some l) (sym (append_assoc read bytes rest))

parts_length : (front : List ℕ) (within : ℕ) → length (take within front) + length (drop within front) ≡ length front
parts_length front within = sym (length-append (take within front) (drop within front)) ∙ ap length (take-append-drop within front)

all_taken : (front : List ℕ) (within : ℕ) → length front ≤ within → drop within front ≡ []
all_taken [] zero long = refl
all_taken [] (suc within) long = refl
all_taken (byte ∷ front) zero long = absurd (omega arith)
all_taken (byte ∷ front) (suc within) long = all_taken front within (omega arith)

more_count : (limit : ℕ) (read beyond front : List ℕ) (within room less : ℕ) → length beyond ≡ 0 → length read + length beyond + room ≡ limit + 1 → length front + less ≡ room → length (read ++ take within front) + length (drop within front) + less ≡ limit + 1
more_count limit read beyond front within room less none count front_is = omega (arith, none, count, front_is, length-append read (take within front), parts_length front within)

more_full : (limit : ℕ) (read beyond front : List ℕ) (within room : ℕ) → length beyond ≡ 0 → length read + length beyond + room ≡ limit + 1 → length front ≡ room → within + 1 ≡ length front → length (read ++ take within front) ≡ limit
more_full limit read beyond front within room none count front_is within_is =
    let short : within ≤ length front = omega (arith, within_is) in
    omega (arith, none, count, front_is, within_is, length-append read (take within front), length-take-le within front short)

-- whole lines of some bytes, and then of more
abbrev whole_more : (schema : Schema) (read bytes pending later : List ℕ) (a b c : Connected) (i j k : ℕ) (s t u v : Seen) → t.taken ≡ u.taken → TakesWhole schema read pending a b i j s u → TakesWhole schema (pending ++ bytes) later b c j k t v → TakesWhole schema (read ++ bytes) later a c i k s v
whole_more schema read bytes pending later a b c i j k s t u v same first second = record {
  pieces = first.pieces ++ second.pieces;
  cut_is = λ l. ap cut (append_assoc read bytes l) ∙ first.cut_is (bytes ++ l) ∙ ap (λ p. first.pieces ++ cut p) (sym (append_assoc pending bytes l)) ∙ ap (λ p. first.pieces ++ p) (second.cut_is l)
      ∙ sym (append_assoc first.pieces second.pieces (cut (later ++ l)));
  takes = pieces_more false schema first.pieces second.pieces a b c i j k s t v (takes_still schema (filled first.pieces) a b i j s u t first.takes same) second.takes;
}

whole_cut : (schema : Schema) (read pending : List ℕ) (a b : Connected) (i j : ℕ) (s t : Seen) → has_newline pending ≡ false → (w : TakesWhole schema read pending a b i j s t) → cut read ≡ w.pieces ++ pending ∷ []
whole_cut schema read pending a b i j s t one w = ap cut (sym (append-nil read)) ∙ w.cut_is [] ∙ ap (λ p. w.pieces ++ cut p) (append-nil pending) ∙ ap (λ c. w.pieces ++ c) (cut_last pending one)

whole_lines : (read pending : List ℕ) (pieces : List (List ℕ)) → cut read ≡ pieces ++ pending ∷ [] → whole_lines_of read ≡ filled pieces
whole_lines read pending pieces is = ap (λ c. filled (all_but_last c)) is ∙ ap filled (all_but_this pieces pending)

-- the next read comes when all whole lines were answered
reading_turn : (limit : ℕ) (schema : Schema) (pending : List ℕ) (room : ℕ) (below after : Connected) (place next : ℕ) (before now then : Seen) (more all : List ℕ) (others outs : List LineOutcome) → 0 < room → has_newline pending ≡ false
    → (r : IsReading limit schema pending room below after place next before now) → TakesTurn now then → all ≡ r.read ++ more → outs ≡ r.whole.takes.outcomes ++ others → IsStood schema below place → AtEachTurn (IsPrompt schema all outs before) before then
reading_turn limit schema pending room below after place next before now then more all others outs some one r turn all_is outs_is stood =
    let lines = whole_lines r.read pending r.whole.pieces (whole_cut schema r.read pending below after place next before now one r.whole) in
    turn_more schema r.read more all r.whole.takes.outcomes others outs before now then all_is outs_is (within_source limit schema pending room below after place next before now some r)
    (subst (λ (l : List (List ℕ)). ComeOf schema l r.whole.takes.outcomes) (sym lines) r.whole.takes.come) (r.whole.takes.wrote stood) turn (r.prompt stood)

-- a piece more was read, and the whole lines in it were answered
pub reading_more : (limit : ℕ) (schema : Schema) (pending later front : List ℕ) (within room less : ℕ) (a b c : Connected) (i j k : ℕ) (before now then next : Seen) → 0 < room → has_newline pending ≡ false → length front + less ≡ room → (0 < less → length front ≤ within)
    → (less ≡ 0 → within + 1 ≡ length front) → IsReading limit schema pending room a b i j before now → OnlyRead now then → TakesTurn now then → IfSome then.left (λ rest. now.left ≡ Some (front ++ rest))
    → TakesWhole schema (pending ++ take within front) later b c j k then next → next.left ≡ then.left → next.turns ≡ then.turns → IsReading limit schema later less a c i k before next
reading_more limit schema pending later front within room less a b c i j k before now then next some one front_is none_more one_more r only turn front_read takes left_is turns_is = record {
  read = r.read ++ take within front;
  beyond = drop within front;
  whole = whole_more schema r.read (take within front) pending later a b c i j k before then now next (ap (λ (x : Seen). x.taken) only) r.whole takes;
  source = subst (λ (l : List ℕ). IfSome next.left (λ left. before.left ≡ Some (l ++ left))) (sym (append_assoc r.read (take within front) (drop within front)))
      (more_source before.left now.left next.left r.read front (take within front ++ drop within front) (take-append-drop within front) (within_source limit schema pending room a b i j before now some r)
      (subst (λ (l : Option (List ℕ)). IfSome l (λ rest. now.left ≡ Some (front ++ rest))) (sym left_is) front_read));
  count = more_count limit r.read r.beyond front within room less (no_length r.beyond (r.none_yet some)) r.count front_is;
  none_yet = λ more. all_taken front within (none_more more);
  full = λ is. more_full limit r.read r.beyond front within room (no_length r.beyond (r.none_yet some)) r.count (omega (arith, front_is, is)) (one_more is);
  prompt = λ stood.
      let all = r.read ++ take within front in
      let outs = r.whole.takes.outcomes ++ takes.takes.outcomes in
      still_turns (IsPrompt schema all outs before) before then next turns_is
      (reading_turn limit schema pending room a b i j before now then (take within front) all takes.takes.outcomes outs some one r turn refl refl stood);
}

-- a read failed
pub reading_fault : (limit : ℕ) (schema : Schema) (pending : List ℕ) (room : ℕ) (below after : Connected) (place next : ℕ) (before now then : Seen) → 0 < room → has_newline pending ≡ false → then.left ≡ now.left → OnlyRead now then
    → TakesTurn now then → IsReading limit schema pending room below after place next before now → RunsOn ends.ReadFault schema below after place next before then
reading_fault limit schema pending room below after place next before now then some one left_is only turn r =
    let takes = takes_still schema (filled r.whole.pieces) below after place next before now then r.whole.takes (ap (λ (x : Seen). x.taken) only) in
    let lines = whole_lines r.read pending r.whole.pieces (whole_cut schema r.read pending below after place next before now one r.whole) in record {
      read = r.read;
      outcomes = takes.outcomes;
      source = subst (λ (l : Option (List ℕ)). IfSome l (λ left. before.left ≡ Some (r.read ++ left))) (sym left_is) (within_source limit schema pending room below after place next before now some r);
      ends = λ stood. (subst (λ (l : List (List ℕ)). ComeOf schema l takes.outcomes) (sym lines) takes.come, takes.wrote stood);
      prompt = λ stood.
          let outs = r.whole.takes.outcomes in
          reading_turn limit schema pending room below after place next before now then [] r.read [] outs some one r turn (sym (append-nil r.read)) (sym (append-nil outs)) stood;
      leads = takes.leads;
    }

long_front : (limit : ℕ) (read beyond : List ℕ) → length read ≡ limit → take limit (read ++ beyond) ≡ read
long_front limit read beyond is = subst (λ n. take n (read ++ beyond) ≡ read) is (take-append_seam read beyond)

long_length : (limit : ℕ) (read beyond : List ℕ) (room : ℕ) → room ≡ 0 → length read + length beyond + room ≡ limit + 1 → length (read ++ beyond) ≡ limit + 1
long_length limit read beyond room none count = omega (arith, none, count, length-append read beyond)

-- more was read than the longest input
pub reading_long : (schema : Schema) (pending : List ℕ) (room : ℕ) (below after : Connected) (place next : ℕ) (before now : Seen) → room ≡ 0 → has_newline pending ≡ false → IsReading longest_input schema pending room below after place next before now
    → RunsOn ends.LongInput schema below after place next before now
reading_long schema pending room below after place next before now none one r =
    let takes = r.whole.takes in
    let lines = ap whole_lines_of (long_front longest_input r.read r.beyond (r.full none)) ∙ whole_lines r.read pending r.whole.pieces (whole_cut schema r.read pending below after place next before now one r.whole) in record {
      read = r.read ++ r.beyond;
      outcomes = takes.outcomes;
      source = r.source;
      ends = λ stood. (subst (λ (l : List (List ℕ)). ComeOf schema l takes.outcomes) (sym lines) takes.come, takes.wrote stood, long_length longest_input r.read r.beyond room none r.count);
      prompt = λ stood. turns_before schema r.read r.beyond (r.read ++ r.beyond) takes.outcomes [] takes.outcomes before now refl (sym (append-nil takes.outcomes)) (r.prompt stood);
      leads = takes.leads;
    }

ended : (now next : Option (List ℕ)) (front : List ℕ) (count : ℕ) → count ≡ 0 → IfSome next (λ rest. now ≡ Some (take count front ++ rest)) → IfSome now (λ left. (count ≡ 0) ↔ (left ≡ [])) → IfSome next (λ rest. (rest ≡ []) × (now ≡ Some rest))
ended now None front count none next end = tt
ended now (Some rest) front count none next end =
    let now_is : now ≡ Some rest = next ∙ ap (λ n. Some (take n front ++ rest)) none in
    ((subst (λ (l : Option (List ℕ)). IfSome l (λ left. (count ≡ 0) ↔ (left ≡ []))) now_is end).0 none, now_is)

end_source : (before now next : Option (List ℕ)) (read : List ℕ) → IfSome now (λ left. before ≡ Some (read ++ left)) → IfSome next (λ rest. (rest ≡ []) × (now ≡ Some rest)) → IfSome next (λ left. before ≡ Some (read ++ left)) × IfSome next (λ left. left ≡ [])
end_source before now None read first second = (tt, tt)
end_source before now (Some rest) read first second = (subst (λ (l : Option (List ℕ)). IfSome l (λ left. before ≡ Some (read ++ left))) second.1 first, second.0)

within_limit : (limit : ℕ) (read beyond : List ℕ) (room : ℕ) → 0 < room → length read + length beyond + room ≡ limit + 1 → length read ≤ limit
within_limit limit read beyond room some count = omega (arith, some, count)

-- The last line was answered.
last_runs : (result : Result (Unit {0}) Failed) (schema : Schema) (read : List ℕ) (lines : List (List ℕ)) (a c : Connected) (i k : ℕ) (before next : Seen) → lines_of read ≡ lines → length read ≤ longest_input
    → IfSome next.left (λ left. before.left ≡ Some (read ++ left)) → IfSome next.left (λ left. left ≡ []) → (takes : Takes (is_err result) schema lines a c i k before next)
    → (IsStood schema a i → AtEachTurn (IsPrompt schema read takes.outcomes before) before next) → RunsOn (end_behind result) schema a c i k before next
last_runs (Ok done) schema read lines a c i k before next is short source none takes prompt = record {
  read = read;
  outcomes = takes.outcomes;
  source = source;
  ends = λ stood. (subst (λ (l : List (List ℕ)). ComeOf schema l takes.outcomes) (sym is) takes.come, takes.wrote stood, short, none);
  prompt = prompt;
  leads = takes.leads;
}
last_runs (Err why) schema read lines a c i k before next is short source none takes prompt = record {
  read = read;
  outcomes = takes.outcomes;
  source = source;
  ends = λ stood. ((lines, [], is ∙ sym (append-nil lines), takes.come), takes.wrote stood);
  prompt = prompt;
  leads = takes.leads;
}

pub reading_last : (result : Result (Unit {0}) Failed) (schema : Schema) (pending front : List ℕ) (count room : ℕ) (a b c : Connected) (i j k : ℕ) (before now then next : Seen) → 0 < room → count ≡ 0 → has_newline pending ≡ false
    → IsReading longest_input schema pending room a b i j before now → OnlyRead now then → TakesTurn now then → IfSome then.left (λ rest. now.left ≡ Some (take count front ++ rest)) → IfSome now.left (λ left. (count ≡ 0) ↔ (left ≡ []))
    → Takes (is_err result) schema (filled (pending ∷ [])) b c j k then next → next.left ≡ then.left → next.turns ≡ then.turns → RunsOn (end_behind result) schema a c i k before next
reading_last result schema pending front count room a b c i j k before now then next some none one r only turn front_read end takes left_is turns_is =
    let outs = r.whole.takes.outcomes ++ takes.outcomes in
    let sources = end_source before.left now.left then.left r.read (within_source longest_input schema pending room a b i j before now some r) (ended now.left then.left front count none front_read end) in
    last_runs result schema r.read (filled (r.whole.pieces ++ pending ∷ [])) a c i k before next (ap filled (whole_cut schema r.read pending a b i j before now one r.whole)) (within_limit longest_input r.read r.beyond room some r.count)
    (subst (λ (l : Option (List ℕ)). IfSome l (λ left. before.left ≡ Some (r.read ++ left))) (sym left_is) sources.0) (subst (λ (l : Option (List ℕ)). IfSome l (λ left. left ≡ [])) (sym left_is) sources.1)
    (pieces_more (is_err result) schema r.whole.pieces (pending ∷ []) a b c i j k before then next (takes_still schema (filled r.whole.pieces) a b i j before now then r.whole.takes (ap (λ (x : Seen). x.taken) only)) takes)
    (λ stood. still_turns (IsPrompt schema r.read outs before) before then next turns_is
    (reading_turn longest_input schema pending room a b i j before now then [] r.read takes.outcomes outs some one r turn (sym (append-nil r.read)) refl stood))

first_runs : (why : Stop) (schema : Schema) (read : List ℕ) (pieces later : List (List ℕ)) (a c : Connected) (i k : ℕ) (before next : Seen) → cut read ≡ pieces ++ later → IfSome next.left (λ left. before.left ≡ Some (read ++ left)) → (takes : Takes (cuts why) schema (filled pieces) a c i k before next)
    → (IsStood schema a i → AtEachTurn (IsPrompt schema read takes.outcomes before) before next) → RunsOn (end_by why) schema a c i k before next
first_runs stop.Write schema read pieces later a c i k before next is source takes prompt = record {
  read = read;
  outcomes = takes.outcomes;
  source = source;
  ends = λ stood. ((filled pieces, filled later, ap filled is ∙ filled_more pieces later, takes.come), takes.wrote stood);
  prompt = prompt;
  leads = takes.leads;
}
first_runs stop.Memory schema read pieces later a c i k before next is source takes prompt = record {
  read = read;
  outcomes = takes.outcomes;
  source = source;
  ends = λ stood. ((filled pieces, filled later, ap filled is ∙ filled_more pieces later, takes.come), takes.wrote stood);
  prompt = prompt;
  leads = takes.leads;
}

-- it stopped within the lines of a piece
pub reading_stops : (why : Stop) (schema : Schema) (pending front : List ℕ) (within room : ℕ) (a b c : Connected) (i j k : ℕ) (before now then next : Seen) → 0 < room → has_newline pending ≡ false → IsReading longest_input schema pending room a b i j before now → OnlyRead now then
    → TakesTurn now then → IfSome then.left (λ rest. now.left ≡ Some (front ++ rest)) → TakesSome (cuts why) schema (pending ++ take within front) b c j k then next → next.left ≡ then.left → next.turns ≡ then.turns
    → RunsOn (end_by why) schema a c i k before next
reading_stops why schema pending front within room a b c i j k before now then next some one r only turn front_read stops left_is turns_is =
    let outs = r.whole.takes.outcomes ++ stops.takes.outcomes in
    let beyond = drop within front in
    let more = (stops.cut_is beyond).0 in
    first_runs why schema (r.read ++ front) (r.whole.pieces ++ stops.pieces) more a c i k before next
    (ap (λ f. cut (r.read ++ f)) (sym (take-append-drop within front)) ∙ r.whole.cut_is (take within front ++ beyond) ∙ ap (λ p. r.whole.pieces ++ cut p) (sym (append_assoc pending (take within front) beyond)) ∙ ap (λ p. r.whole.pieces ++ p) (stops.cut_is beyond).1
    ∙ sym (append_assoc r.whole.pieces stops.pieces more))
    (more_source before.left now.left next.left r.read front front refl (within_source longest_input schema pending room a b i j before now some r)
    (subst (λ (l : Option (List ℕ)). IfSome l (λ rest. now.left ≡ Some (front ++ rest))) (sym left_is) front_read))
    (pieces_more (cuts why) schema r.whole.pieces stops.pieces a b c i j k before then next (takes_still schema (filled r.whole.pieces) a b i j before now then r.whole.takes (ap (λ (x : Seen). x.taken) only)) stops.takes)
    (λ stood. still_turns (IsPrompt schema (r.read ++ front) outs before) before then next turns_is
    (reading_turn longest_input schema pending room a b i j before now then front (r.read ++ front) stops.takes.outcomes outs some one r turn refl refl stood))
