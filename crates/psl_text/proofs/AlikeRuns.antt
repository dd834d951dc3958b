-- Runs of entries of tokens that begin alike.
use Rattle.std.proofs.Common.{◌≡◌, ◌≢◌, ℕ, zero, suc, ◌<◌, false, List, [], ◌∷◌, ◌++◌, length, Err, refl, sym, ap, subst, ◌∙◌, arith, append_assoc}
use Rattle.psl_text.specs.declared.fault.TextFault.{TextFault}
use Rattle.psl_text.specs.declared.token.Kind.TheVariants as kind
use Rattle.psl_text.specs.declared.token.Token.{Token}
use Rattle.psl_text.specs.declared.tree.Entry.{Entry}
use Rattle.psl_text.specs.declared.tree.Word.{Word}
use Rattle.psl_text.specs.Parser.{and_then, ◌>>=◌, pure, kind_of, same_kind, refusal}
use Rattle.psl_text.specs.Grammar.{ending, entry_of, entries_from, entries}
use Rattle.psl_text.specs.Derives.{Sign, IsEntry, Ends, AreEntries}
use Rattle.psl_text.specs.Faults.{EntryStops, EntriesStop}
use Rattle.psl_text.proofs.Steps.{when_yes, when_no, sign_other}
use Rattle.psl_text.proofs.EntryRules.{newline_self, entry_ok, entry_is, entry_begins, entries_shrink, ends_follow, ends_is}
use Rattle.psl_text.proofs.FaultSteps.{bind_stops, bind_goes, misses_sees, Anything, whole_is}
use Rattle.psl_text.proofs.FaultEntries.{after_entry, turn, entry_refuses, entry_reaches, ending_stops}
use Rattle.psl_text.proofs.Alike.{Alike, alike_kind, alike_sign, seen_again, both, Taken, Lost}
use Rattle.psl_text.proofs.AlikeTerms.{Moved, LostIn}
use Rattle.psl_text.proofs.AlikeEntries.{entry_keeps, entry_loses}

-- ---- entries that are derived

some_front : (mid front us vs : List Token) → mid ≡ front ++ us → length us < length mid → Alike mid (front ++ vs)
some_front mid [] us vs split shorter = let same = ap (λ zs. length zs) split in absurd (omega (arith, same))
some_front mid (t ∷ front) us vs split shorter = subst (λ zs. Alike zs (t ∷ (front ++ vs))) (sym split) Alike.alike

module _ (w : Word) where
  entry_taken : (ts : List Token) (e : Entry) (mid next : List Token) → IsEntry w ts e mid → Ends mid next → Taken (entry_of w) ts e mid
  entry_taken ts e mid next i k = entry_keeps w ts e mid (entry_is w ts e mid i (ends_follow mid next k))

  entry_again : (ts : List Token) (e : Entry) (mid : List Token) (t : Taken (entry_of w) ts e mid) (back vs : List Token) → Alike mid (back ++ vs) → IsEntry w ((t.front ++ back) ++ vs) e (back ++ vs)
  entry_again ts e mid t back vs a =
      subst (λ zs. IsEntry w zs e (back ++ vs)) (sym (append_assoc t.front back vs)) (entry_ok w (t.front ++ (back ++ vs)) e (back ++ vs) (t.again (back ++ vs) a))

  closed_moves : (ts us : List Token) → Sign kind.CloseBrace ts us → Moved (AreEntries w) ts [] us
  closed_moves ts us (Sign.sign {t} e) = record { front = t ∷ []; split = refl; again = λ vs. AreEntries.closed (Sign.sign e) }

  blank_moves : (ts next : List Token) (es : List Entry) (us : List Token) → Sign kind.Newline ts next → Moved (AreEntries w) next es us → Moved (AreEntries w) ts es us
  blank_moves ts next es us (Sign.sign {t} e) l = record { front = t ∷ l.front; split = ap (λ zs. t ∷ zs) l.split; again = λ vs. AreEntries.blank (Sign.sign e) (l.again vs) }

  more_moves : (ts : List Token) (e : Entry) (mid next : List Token) (es : List Entry) (us : List Token) → Taken (entry_of w) ts e mid → Ends mid next → Moved (AreEntries w) next es us → length us < length next → Moved (AreEntries w) ts (e ∷ es) us
  more_moves ts e mid next es us t (Ends.newline (Sign.sign {t = c} s)) l shorter = record {
    front = t.front ++ c ∷ l.front;
    split = both ts t.front (c ∷ next) (c ∷ l.front) us t.split (ap (λ zs. c ∷ zs) l.split);
    again = λ vs. AreEntries.more (entry_again ts e (c ∷ next) t (c ∷ l.front) vs Alike.alike) (Ends.newline (Sign.sign s)) (l.again vs);
  }
  more_moves ts e mid next es us t (Ends.brace {us = zs} s) l shorter = record {
    front = t.front ++ l.front;
    split = both ts t.front mid l.front us t.split l.split;
    again = λ vs.
        let alike = some_front mid l.front us vs l.split shorter in
        let closes = alike_sign kind.CloseBrace mid (l.front ++ vs) zs alike s in
        AreEntries.more (entry_again ts e mid t l.front vs alike) (Ends.brace closes.1) (l.again vs);
  }

  pub entries_move : (ts : List Token) (es : List Entry) (us : List Token) → AreEntries w ts es us → Moved (AreEntries w) ts es us
  entries_move ts es us (AreEntries.closed s) = closed_moves ts us s
  entries_move ts es us (AreEntries.blank {us = next} s d) = blank_moves ts next es us s (entries_move next es us d)
  entries_move ts es us (AreEntries.more {us = mid} {vs = next} {e} {es = later} i k d) =
      more_moves ts e mid next later us (entry_taken ts e mid next i k) k (entries_move next later us d) (entries_shrink w next later us d)

  -- ---- entries that stop

  entry_lost : (ts us : List Token) → kind_of ts ≢ kind.CloseBrace → kind_of ts ≢ kind.Newline → Lost (entry_of w) ts us → LostIn (entries_from w) ts us
  unfolding entries_from
  entry_lost ts us no_brace no_newline l = record {
    front = l.front;
    split = l.split;
    again = λ vs n found a. elim n as (λ j. (f : TextFault) × (entries_from w j found (l.front ++ vs) ≡ Err f)) [
      | zero ↦ (refusal (l.front ++ vs), refl)
      | suc k ↦
          let h = l.again vs a in (
            h.0,
            when_no kind.CloseBrace (l.front ++ vs) (pure found) (turn w k found) (seen_again kind.CloseBrace false ts l.front us vs l.split a (misses_sees kind.CloseBrace ts no_brace))
                ∙ when_no kind.Newline (l.front ++ vs) (entries_from w k found) (entry_of w >>= after_entry w k found) (seen_again kind.Newline false ts l.front us vs l.split a (misses_sees kind.Newline ts no_newline))
                ∙ bind_stops (entry_of w (l.front ++ vs)) (after_entry w k found) h.0 h.1,
          )
    ];
  }

  -- what begins an entry is no brace and no newline
  entry_turn : (ts : List Token) (e : Entry) (mid front vs : List Token) (k : ℕ) (found : List Entry) → IsEntry w ts e mid → ts ≡ front ++ mid → Alike mid vs
      → entries_from w (suc k) found (front ++ vs) ≡ and_then (entry_of w (front ++ vs)) (after_entry w k found)
  unfolding entries_from same_kind
  entry_turn ts e mid front vs k found i split a =
      when_no kind.CloseBrace (front ++ vs) (pure found) (turn w k found) (seen_again kind.CloseBrace false ts front mid vs split a (entry_begins kind.CloseBrace w ts e mid refl refl i))
      ∙ when_no kind.Newline (front ++ vs) (entries_from w k found) (entry_of w >>= after_entry w k found) (seen_again kind.Newline false ts front mid vs split a (entry_begins kind.Newline w ts e mid refl refl i))

  behind_lost : (ts : List Token) (e : Entry) (us : List Token) → IsEntry w ts e us → Taken (entry_of w) ts e us → kind_of us ≢ kind.Newline → kind_of us ≢ kind.CloseBrace → LostIn (entries_from w) ts us
  unfolding entries_from
  behind_lost ts e us i t no_newline no_brace = record {
    front = t.front;
    split = t.split;
    again = λ vs n found a. elim n as (λ j. (f : TextFault) × (entries_from w j found (t.front ++ vs) ≡ Err f)) [
      | zero ↦ (refusal (t.front ++ vs), refl)
      | suc k ↦ (
        refusal vs,
        entry_turn ts e us t.front vs k found i t.split a ∙ bind_goes (entry_of w (t.front ++ vs)) (after_entry w k found) e vs (t.again vs a)
            ∙ bind_stops (ending vs) (λ _. entries_from w k (found ++ e ∷ [])) (refusal vs) (ending_stops vs (λ s. no_newline (alike_kind us vs a ∙ s)) (λ s. no_brace (alike_kind us vs a ∙ s))),
      )
    ];
  }

  blank_lost : (ts next us : List Token) → Sign kind.Newline ts next → LostIn (entries_from w) next us → LostIn (entries_from w) ts us
  unfolding entries_from same_kind
  blank_lost ts next us (Sign.sign {t} e) l = record {
    front = t ∷ l.front;
    split = ap (λ zs. t ∷ zs) l.split;
    again = λ vs n found a. elim n as (λ j. (f : TextFault) × (entries_from w j found (t ∷ (l.front ++ vs)) ≡ Err f)) [
      | zero ↦ (refusal (t ∷ (l.front ++ vs)), refl)
      | suc k ↦
          let h = l.again vs k found a in
          let s : Sign kind.Newline (t ∷ (l.front ++ vs)) (l.front ++ vs) = Sign.sign e in (
            h.0,
            when_no kind.CloseBrace (t ∷ (l.front ++ vs)) (pure found) (turn w k found) (sign_other kind.Newline kind.CloseBrace (t ∷ (l.front ++ vs)) (l.front ++ vs) refl s)
                ∙ when_yes kind.Newline (t ∷ (l.front ++ vs)) (l.front ++ vs) (entries_from w k found) (entry_of w >>= after_entry w k found) newline_self s ∙ h.1,
          )
    ];
  }

  later_lost : (ts : List Token) (e : Entry) (mid next us : List Token) → IsEntry w ts e mid → Taken (entry_of w) ts e mid → Sign kind.Newline mid next → LostIn (entries_from w) next us → LostIn (entries_from w) ts us
  unfolding entries_from
  later_lost ts e mid next us i t (Sign.sign {t = c} s) l = record {
    front = t.front ++ c ∷ l.front;
    split = both ts t.front (c ∷ next) (c ∷ l.front) us t.split (ap (λ zs. c ∷ zs) l.split);
    again = λ vs n found a. elim n as (λ j. (f : TextFault) × (entries_from w j found ((t.front ++ c ∷ l.front) ++ vs) ≡ Err f)) [
      | zero ↦ (refusal ((t.front ++ c ∷ l.front) ++ vs), refl)
      | suc k ↦
          let h = l.again vs k (found ++ e ∷ []) a in (
            h.0,
            ap (λ zs. entries_from w (suc k) found zs) (append_assoc t.front (c ∷ l.front) vs)
                ∙ entry_turn ts e (c ∷ next) t.front (c ∷ (l.front ++ vs)) k found i t.split Alike.alike
                ∙ bind_goes (entry_of w (t.front ++ c ∷ (l.front ++ vs))) (after_entry w k found) e (c ∷ (l.front ++ vs)) (t.again (c ∷ (l.front ++ vs)) Alike.alike)
                ∙ bind_goes (ending (c ∷ (l.front ++ vs))) (λ _. entries_from w k (found ++ e ∷ [])) tt (l.front ++ vs) (ends_is (c ∷ (l.front ++ vs)) (l.front ++ vs) (Ends.newline (Sign.sign s)))
                ∙ h.1,
          )
    ];
  }

  pub entries_lose : (ts us : List Token) → EntriesStop w ts us → LostIn (entries_from w) ts us
  entries_lose ts us (EntriesStop.entry a b s) = entry_lost ts us a b (entry_loses w ts us s)
  entries_lose ts us (EntriesStop.behind {e} x a b) =
      behind_lost ts e us x.is (entry_keeps w ts e us (whole_is (IsEntry w) (EntryStops w) Anything (entry_of w) (entry_ok w) (entry_refuses w) (entry_reaches w) ts e us x)) a b
  entries_lose ts us (EntriesStop.blank {us = next} s d) = blank_lost ts next us s (entries_lose next us d)
  entries_lose ts us (EntriesStop.later {us = mid} {vs = next} {e} i s d) = later_lost ts e mid next us i (entry_taken ts e mid next i (Ends.newline s)) s (entries_lose next us d)
