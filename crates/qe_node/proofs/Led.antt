-- What a core did for lines, and then for more.
use Rattle.std.proofs.Common.{◌≡◌, ℕ, ◌+◌, List, [], ◌∷◌, ◌++◌, length, refl, sym, ap, ◌∙◌, subst, append_assoc, append-nil, length-append, arith, inl, add_assoc, zero-add, flat_map}
use Rattle.std.proofs.lemmas.Grind.{flat_map-append}
use Rattle.qe_base.specs.Schemas.{Schema}
use Rattle.qe_base.specs.declared.event.Reply.{Reply}
use Rattle.qe_base.specs.declared.event.Reply.TheVariants as replies
use Rattle.qe_base.specs.declared.event.What.TheVariants as what
use Rattle.qe_base.specs.declared.write.Op.{Op}
use Rattle.qe_forms.specs.Reply.{told_text, text_of}
use Rattle.qe_history.specs.Exchange.{LineOutcome, told, entered, entered_of, history_of, event_of, entry_of}
use Rattle.qe_history.specs.State.{State}
use Rattle.qe_node.specs.Serving.{IsStood, Leads, line_calls, lines_calls, text_or_memory}
use Rattle.qe_node.proofs.Replied.{AllRight, legal_right, right_last, right_text}
use Rattle.qe_ops.specs.Bounds.{both_calls, calls_of}
use Rattle.qe_session.specs.Handling.{Calls, GoesOn, one_apply}
use Rattle.qe_session.specs.Standing.{StandsFor}
use Rattle.qe_view.specs.Attached.{Connected}
use Rattle.qe_view.specs.Calls.{CallCounts, MakesAtMost, no_calls}

-- the history goes on with the entry of an outcome, if any
history_more : (done : List LineOutcome) (outcome : LineOutcome) → history_of (done ++ outcome ∷ []) ≡ history_of done ++ entered_of outcome
history_more done outcome = ap (λ l. entry_of what.Hello replies.Hello ∷ l) (flat_map-append entered_of done (outcome ∷ []) ∙ ap (λ l. flat_map entered_of done ++ l) (append-nil (entered_of outcome)))

no_more : (calls : CallCounts) → MakesAtMost no_calls calls calls
no_more calls = record { loads = omega arith; scans = omega arith; pages = omega arith; lasts = omega arith; applies = omega arith }

one_more : (most before after : CallCounts) → MakesAtMost most before after → MakesAtMost (both_calls most no_calls) before after
one_more most before after makes = record { loads = omega (arith, makes.loads); scans = omega (arith, makes.scans); pages = omega (arith, makes.pages); lasts = omega (arith, makes.lasts); applies = omega (arith, makes.applies) }

both_more : (first second a b c : CallCounts) → MakesAtMost first a b → MakesAtMost second b c → MakesAtMost (both_calls first second) a c
both_more first second a b c one other = record {
  loads = omega (arith, one.loads, other.loads);
  scans = omega (arith, one.scans, other.scans);
  pages = omega (arith, one.pages, other.pages);
  lasts = omega (arith, one.lasts, other.lasts);
  applies = omega (arith, one.applies, other.applies);
}

none_first : (calls : CallCounts) → both_calls no_calls calls ≡ calls
none_first calls = λ i. record { loads = zero-add calls.loads i; scans = zero-add calls.scans i; pages = zero-add calls.pages i; lasts = zero-add calls.lasts i; applies = zero-add calls.applies i }

both_both : (a b c : CallCounts) → both_calls (both_calls a b) c ≡ both_calls a (both_calls b c)
both_both a b c = λ i. record {
  loads = add_assoc a.loads b.loads c.loads i;
  scans = add_assoc a.scans b.scans c.scans i;
  pages = add_assoc a.pages b.pages c.pages i;
  lasts = add_assoc a.lasts b.lasts c.lasts i;
  applies = add_assoc a.applies b.applies c.applies i;
}

calls_more : (schema : Schema) (outcomes others : List LineOutcome) → both_calls (lines_calls schema outcomes) (lines_calls schema others) ≡ lines_calls schema (outcomes ++ others)
calls_more schema [] others = none_first (lines_calls schema others)
calls_more schema (outcome ∷ outcomes) others = both_both (line_calls schema outcome) (lines_calls schema outcomes) (lines_calls schema others) ∙ ap (both_calls (line_calls schema outcome)) (calls_more schema outcomes others)

stands_as : (schema : Schema) (below : Connected) (opening : State) (place : ℕ) (done more : List LineOutcome) → more ≡ done → StandsFor schema below opening (history_of done) → place ≡ length (history_of done)
    → StandsFor schema below opening (history_of more) × (place ≡ length (history_of more))
stands_as schema below opening place done more same stands length_is =
    (subst (λ (o : List LineOutcome). StandsFor schema below opening (history_of o)) (sym same) stands, subst (λ (o : List LineOutcome). place ≡ length (history_of o)) (sym same) length_is)

-- nothing is done for no lines
pub leads_none : (schema : Schema) (below : Connected) (place : ℕ) → Leads schema [] below place below place
leads_none schema below place = record { stands = λ opening done stands length_is. stands_as schema below opening place done (done ++ []) (append-nil done) stands length_is; calls = no_more below.calls }

-- nor for a line that isn't entered
pub leads_told : (schema : Schema) (text : List ℕ) (below : Connected) (place : ℕ) → Leads schema (told text ∷ []) below place below place
leads_told schema text below place = record {
  stands = λ opening done stands length_is.
      let same = history_more done (told text) ∙ append-nil (history_of done) in
      (subst (StandsFor schema below opening) (sym same) stands, length_is ∙ ap length (sym same));
  calls = one_more no_calls below.calls below.calls (no_more below.calls);
}

-- a line that is entered is the next entry
pub leads_entered : (schema : Schema) (op : Op) (reply : Reply) (below : Connected) (place : ℕ) (after : Connected) (next : ℕ) → next ≡ place + 1 → GoesOn schema place (event_of (what.Single op)) reply below after → Calls schema (what.Single op) below after
    → Leads schema (entered op reply ∷ []) below place after next
leads_entered schema op reply below place after next next_is goes calls = record {
  stands = λ opening done stands length_is.
      let grown = history_more done (entered op reply) in
      let one = entry_of (what.Single op) reply in (
        subst (StandsFor schema after opening) (sym grown) (goes opening (history_of done) 0 stands length_is (inl (record { greeting = entry_of what.Hello replies.Hello; at = refl; own = refl; greets = tt }))),
        next_is ∙ ap (λ n. n + 1) length_is ∙ sym (length-append (history_of done) (one ∷ [])) ∙ ap length (sym grown),
      );
  calls = one_more (both_calls (calls_of schema op) one_apply) below.calls after.calls calls.most;
}

-- for some lines, and then for more
pub leads_more : (schema : Schema) (outcomes others : List LineOutcome) (a : Connected) (i : ℕ) (b : Connected) (j : ℕ) (c : Connected) (k : ℕ) → Leads schema outcomes a i b j → Leads schema others b j c k → Leads schema (outcomes ++ others) a i c k
leads_more schema outcomes others a i b j c k first second = record {
  stands = λ opening done stands length_is.
      let one = first.stands opening done stands length_is in
      let two = second.stands opening (done ++ outcomes) one.0 one.1 in
      stands_as schema c opening k ((done ++ outcomes) ++ others) (done ++ (outcomes ++ others)) (sym (append_assoc done outcomes others)) two.0 two.1;
  calls = subst (λ (most : CallCounts). MakesAtMost most a.calls c.calls) (calls_more schema outcomes others) (both_more (lines_calls schema outcomes) (lines_calls schema others) a.calls b.calls c.calls first.calls second.calls);
}

pub stood_on : (schema : Schema) (outcomes : List LineOutcome) (a : Connected) (i : ℕ) (b : Connected) (j : ℕ) → IsStood schema a i → Leads schema outcomes a i b j → IsStood schema b j
stood_on schema outcomes a i b j stood leads =
    let now = leads.stands stood.opening stood.done stood.stands stood.length_is in
    record { opening = stood.opening; done = stood.done ++ outcomes; stands = now.0; length_is = now.1 }

-- the reply to an operation that was entered in a legal history has a text, or it is want of memory
pub entered_text : (schema : Schema) (op : Op) (reply : Reply) (a : Connected) (i : ℕ) (b : Connected) (j : ℕ) → IsStood schema a i → Leads schema (entered op reply ∷ []) a i b j → text_or_memory (told_text schema reply) ≡ text_of schema reply
entered_text schema op reply a i b j stood leads =
    let now = leads.stands stood.opening stood.done stood.stands stood.length_is in
    let all : AllRight (history_of stood.done ++ entry_of (what.Single op) reply ∷ []) = subst AllRight (history_more stood.done (entered op reply)) (legal_right stood.opening _ now.0.after now.0.legal) in
    right_text schema reply (right_last (history_of stood.done) (entry_of (what.Single op) reply) all)

-- a greeting is the first entry
pub greeted : (schema : Schema) (reply : Reply) (after : Connected) (opening : State) → StandsFor schema after opening (entry_of what.Hello reply ∷ []) → StandsFor schema after opening (history_of [])
greeted schema reply after opening stands =
    subst (λ (r : Reply). StandsFor schema after opening (entry_of what.Hello r ∷ [])) (right_last [] (entry_of what.Hello reply) (legal_right opening _ stands.after stands.legal)) stands
