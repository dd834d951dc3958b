-- Entries: what is refused stops so, and what stops is refused so.
use Rattle.std.proofs.Common.{◌≡◌, ◌≢◌, ℕ, zero, suc, ◌<◌, ◌≤◌, Bool, true, false, cond, List, [], ◌∷◌, ◌++◌, length, Ok, Err, ◌⊎◌, inl, inr, refl, sym, ap, subst, ◌∙◌, arith}
use Rattle.psl_text.specs.declared.fault.TextFault.{TextFault}
use Rattle.psl_text.specs.declared.token.Kind.TheVariants as kind
use Rattle.psl_text.specs.declared.token.Token.{Token}
use Rattle.psl_text.specs.declared.tree.Name.{Name}
use Rattle.psl_text.specs.declared.tree.Attribute.{Attribute}
use Rattle.psl_text.specs.declared.tree.Entry.{Entry}
use Rattle.psl_text.specs.declared.tree.Entry.TheVariants as entry
use Rattle.psl_text.specs.declared.tree.Word.{Word}
use Rattle.psl_text.specs.declared.tree.Word.TheVariants as word
use Rattle.psl_text.specs.Parser.{Parser, ◌>>=◌, ◌>>◌, pure, sees, same_kind, kind_of, docs_of, eat, expect, refusal}
use Rattle.psl_text.specs.Grammar.{block_attribute, field, member, of_block, entry_of, ending, entries_from, entries}
use Rattle.psl_text.specs.Derives.{Sign, Spelled, IsAttribute, IsEntry, Ends}
use Rattle.psl_text.specs.Stops.{Misses}
use Rattle.psl_text.specs.Faults.{SettingStops, FieldStops, MemberStops, OfBlockStops, EntryStops, EntriesStop}
use Rattle.psl_text.proofs.Steps.{bind_ok, ok_rest, when_yes, when_no, sign_sees, sign_other, sign_shrinks}
use Rattle.psl_text.proofs.TermRules.{name_inside, sign_kind}
use Rattle.psl_text.proofs.EntryRules.{at_at_inside, at_at_self, newline_inside, newline_self, brace_inside, brace_self, of_block_other, entry_ok, entry_is, entry_begins, entry_shrinks, ends_ok, ends_is, ends_follow, ends_shrink}
use Rattle.psl_text.proofs.FaultSteps.{refused, ok_not_err, faults_same, bind_err, bind_stops, bind_goes, sees_misses, misses_sees, when_split, expect_err, expect_misses, Refuses, Further, Reaches, Anything, whole_read, whole_is}
use Rattle.psl_text.proofs.FaultSeparate.{empty_of, end_misses}
use Rattle.psl_text.proofs.FaultAttributes.{block_attribute_refuses, block_attribute_reaches}
use Rattle.psl_text.proofs.FaultFields.{setting_found, setting_stops, setting_reaches, member_refuses, member_reaches, field_refuses, field_reaches}

-- ---- attributes of a whole block

module _ (other : List (List ℕ) → Parser Entry) (OtherStops : List Token → List Token → Type 0) (refuses : (above : List (List ℕ)) → Refuses (other above) OtherStops) where
  abbrev pub of_attribute : List (List ℕ) → Parser Entry
  of_attribute above = block_attribute >>= λ found. pure (entry.Block found above)

  of_block_found : (ts : List Token) (e : TextFault) → of_block other ts ≡ Err e → (us : List Token) × OfBlockStops OtherStops ts us × (e ≡ refusal us)
  unfolding of_block
  of_block_found ts e h = elim (when_split kind.AtAt ts (of_attribute (docs_of ts)) (other (docs_of ts)) (Err e) at_at_inside h) [
    | inl at ↦ elim (bind_err (block_attribute at.0) (λ found. pure (entry.Block found (docs_of ts))) e at.2) [
      | inl bad ↦ let found = block_attribute_refuses.found at.0 e bad in (found.0, OfBlockStops.attribute at.1 found.1, found.2)
      | inr step ↦ absurd (ok_not_err (pure (entry.Block step.0 (docs_of ts)) step.1) (entry.Block step.0 (docs_of ts)) step.1 e refl step.3)
    ]
    | inr no_at ↦ let found = (refuses (docs_of ts)).found ts e no_at.1 in (found.0, OfBlockStops.other (sees_misses kind.AtAt ts no_at.0) found.1, found.2)
  ]

  pub attribute_follows : (ts us : List Token) → Sign kind.AtAt ts us → of_block other ts ≡ of_attribute (docs_of ts) us
  unfolding of_block
  attribute_follows ts us s = when_yes kind.AtAt ts us (of_attribute (docs_of ts)) (other (docs_of ts)) at_at_self s

  of_block_stops : (ts us : List Token) → OfBlockStops OtherStops ts us → of_block other ts ≡ Err (refusal us)
  unfolding of_block
  of_block_stops ts rest (OfBlockStops.attribute {us} s a) =
      attribute_follows ts us s ∙ bind_stops (block_attribute us) (λ found. pure (entry.Block found (docs_of ts))) (refusal rest) (block_attribute_refuses.stops us rest a)
  of_block_stops ts us (OfBlockStops.other differs d) =
      when_no kind.AtAt ts (of_attribute (docs_of ts)) (other (docs_of ts)) (misses_sees kind.AtAt ts differs) ∙ (refuses (docs_of ts)).stops ts us d

  pub of_block_refuses : Refuses (of_block other) (OfBlockStops OtherStops)
  of_block_refuses = record { found = of_block_found; stops = of_block_stops }

  pub of_block_reaches : (ts us : List Token) (a : Attribute) (rest : List Token) → Sign kind.AtAt ts us → IsAttribute (Spelled kind.Name) us a rest
      → (of_block other ts ≡ Ok (entry.Block a (docs_of ts), rest)) ⊎ Further (of_block other) Anything ts rest
  of_block_reaches ts us a rest s h = elim (block_attribute_reaches us a rest h) [
    | inl e ↦ inl (attribute_follows ts us s ∙ bind_goes (block_attribute us) (λ found. pure (entry.Block found (docs_of ts))) a rest e)
    | inr f ↦ inr (record {
      left = tt;
      shorter = λ x zs g.
          let step = bind_ok (block_attribute us) (λ found. pure (entry.Block found (docs_of ts))) x zs (sym (attribute_follows ts us s) ∙ g) in
          let same : step.1 ≡ zs = ok_rest (entry.Block step.0 (docs_of ts)) x step.1 zs step.3 in
          subst (λ ws. length ws < length rest) same (f.shorter step.0 step.1 step.2);
    })
  ]

  -- what begins with a name is no attribute
  pub other_reaches : (ts us : List Token) (n : Name) (x : Entry) (rest : List Token) → Spelled kind.Name ts n us → (other (docs_of ts) ts ≡ Ok (x, rest)) ⊎ Further (other (docs_of ts)) Anything ts rest
      → (of_block other ts ≡ Ok (x, rest)) ⊎ Further (of_block other) Anything ts rest
  other_reaches ts us n x rest s (inl e) = inl (of_block_other other ts us n s ∙ e)
  other_reaches ts us n x rest s (inr f) = inr (record { left = tt; shorter = λ y zs g. f.shorter y zs (sym (of_block_other other ts us n s) ∙ g) })

-- ---- entries

pub entry_refuses : (w : Word) → Refuses (entry_of w) (EntryStops w)
unfolding entry_of EntryStops
entry_refuses word.Datasource = record { found = setting_found; stops = setting_stops }
entry_refuses word.Generator = record { found = setting_found; stops = setting_stops }
entry_refuses word.Model = of_block_refuses field FieldStops field_refuses
entry_refuses word.Enum = of_block_refuses member MemberStops member_refuses

pub entry_reaches : (w : Word) → Reaches (entry_of w) Anything (IsEntry w)
unfolding entry_of
entry_reaches w ts e rest (IsEntry.source_setting {us} {vs} {n} {v} s q t) = setting_reaches ts us vs n v rest s q t
entry_reaches w ts e rest (IsEntry.generator_setting {us} {vs} {n} {v} s q t) = setting_reaches ts us vs n v rest s q t
entry_reaches w ts e rest (IsEntry.field {us} {vs} {ws} {n} {k} {m} {found} s t h d) =
    other_reaches field FieldStops field_refuses ts us n (entry.Field n k m found (docs_of ts)) rest s (field_reaches (docs_of ts) ts us vs ws n k m found rest s t h d)
entry_reaches w ts e rest (IsEntry.member {us} {n} {found} s d) =
    other_reaches member MemberStops member_refuses ts us n (entry.Member n found (docs_of ts)) rest s (member_reaches (docs_of ts) ts us n found rest s d)
entry_reaches w ts e rest (IsEntry.of_model {us} {a} s h) = of_block_reaches field FieldStops field_refuses ts us a rest s h
entry_reaches w ts e rest (IsEntry.of_enum {us} {a} s h) = of_block_reaches member MemberStops member_refuses ts us a rest s h

-- ---- what stands behind an entry

-- neither a newline nor the closing brace
record EndMissed (ts : List Token) (e : TextFault) : Type 0 where
  pub no_newline : kind_of ts ≢ kind.Newline
  pub no_brace : kind_of ts ≢ kind.CloseBrace
  pub same : e ≡ refusal ts

ending_err : (ts : List Token) (e : TextFault) → ending ts ≡ Err e → EndMissed ts e
unfolding ending
ending_err ts e h = by_test (sees kind.CloseBrace ts) refl h
  where
    by_newline : sees kind.CloseBrace ts ≡ false → ((us : List Token) × Misses kind.Newline ts us × (e ≡ refusal us)) → EndMissed ts e
    by_newline seen (us, Misses.misses differs, same) = record { no_newline = differs; no_brace = sees_misses kind.CloseBrace ts seen; same = same }

    by_test : (b : Bool) → sees kind.CloseBrace ts ≡ b → cond b (Ok (tt, ts)) (expect kind.Newline ts) ≡ Err e → EndMissed ts e
    by_test true seen h = absurd (ok_not_err (Ok (tt, ts)) tt ts e refl h)
    by_test false seen h = by_newline seen (expect_err kind.Newline ts e h)

pub ending_stops : (ts : List Token) → kind_of ts ≢ kind.Newline → kind_of ts ≢ kind.CloseBrace → ending ts ≡ Err (refusal ts)
unfolding ending
ending_stops ts no_newline no_brace =
    ap (λ b. cond b (Ok (tt, ts)) (expect kind.Newline ts)) (misses_sees kind.CloseBrace ts no_brace) ∙ expect_misses kind.Newline ts ts (Misses.misses no_newline)

brace_apart : (same_kind kind.Name kind.CloseBrace ≡ false) × (same_kind kind.AtAt kind.CloseBrace ≡ false)
unfolding same_kind
brace_apart = (refl, refl)

-- ---- runs of entries

module _ (w : Word) where
  abbrev pub after_entry : ℕ → List Entry → Entry → Parser (List Entry)
  after_entry n found next = ending >> entries_from w n (found ++ next ∷ [])

  -- a turn that is no closing brace
  abbrev pub turn : ℕ → List Entry → Parser (List Entry)
  turn n found = eat kind.Newline >>= λ is_blank. cond is_blank (entries_from w n found) (entry_of w >>= after_entry n found)

  entry_none : entry_of w [] ≡ refused []
  unfolding EntryStops
  entry_none = (entry_refuses w).stops [] [] (nothing_begins w)
    where
      no_name : Misses kind.Name [] []
      no_name = Misses.misses (end_misses kind.Name name_inside)

      nothing_begins : (v : Word) → EntryStops v [] []
      nothing_begins word.Datasource = SettingStops.name no_name
      nothing_begins word.Generator = SettingStops.name no_name
      nothing_begins word.Model = OfBlockStops.other (end_misses kind.AtAt at_at_inside) (FieldStops.name no_name)
      nothing_begins word.Enum = OfBlockStops.other (end_misses kind.AtAt at_at_inside) (MemberStops.name no_name)

  nothing_left : (ts : List Token) (e : TextFault) → length ts ≤ 0 → refused {A = List Entry} ts ≡ Err e → (us : List Token) × EntriesStop w ts us × (e ≡ refusal us)
  nothing_left [] e small h =
      let s = (entry_refuses w).found [] (refusal []) entry_none in
      (s.0, EntriesStop.entry (end_misses kind.CloseBrace brace_inside) (end_misses kind.Newline newline_inside) s.1, faults_same (refused {A = List Entry} []) e (refusal []) h refl ∙ s.2)
  nothing_left (t ∷ ts) e small h = absurd (omega arith)

  entries_from_found : (n : ℕ) (found : List Entry) (ts : List Token) (e : TextFault) → length ts ≤ n → entries_from w n found ts ≡ Err e → (us : List Token) × EntriesStop w ts us × (e ≡ refusal us)
  unfolding entries_from
  entries_from_found zero found ts e small h = nothing_left ts e small h
  entries_from_found (suc n) found ts e small h = elim (when_split kind.CloseBrace ts (pure found) (turn n found) (Err e) brace_inside h) [
    | inl closes ↦ absurd (ok_not_err (pure found closes.0) found closes.0 e refl closes.2)
    | inr other ↦ elim (when_split kind.Newline ts (entries_from w n found) (entry_of w >>= after_entry n found) (Err e) newline_inside other.1) [
      | inl blank ↦
          let later = entries_from_found n found blank.0 e (omega (arith, sign_shrinks kind.Newline ts blank.0 blank.1)) blank.2 in
          (later.0, EntriesStop.blank blank.1 later.1, later.2)
      | inr goes ↦ elim (bind_err (entry_of w ts) (after_entry n found) e goes.1) [
        | inl bad ↦ let s = (entry_refuses w).found ts e bad in (s.0, EntriesStop.entry (sees_misses kind.CloseBrace ts other.0) (sees_misses kind.Newline ts goes.0) s.1, s.2)
        | inr first ↦
            let read : IsEntry w ts first.0 first.1 = entry_ok w ts first.0 first.1 first.2 in
            elim (bind_err (ending first.1) (λ _. entries_from w n (found ++ first.0 ∷ [])) e first.3) [
              | inl bad ↦
                  let missed = ending_err first.1 e bad in
                  (first.1, EntriesStop.behind (whole_read (IsEntry w) (EntryStops w) Anything (entry_of w) (entry_ok w) (entry_refuses w) (entry_reaches w) ts first.0 first.1 first.2) missed.no_newline missed.no_brace, missed.same)
              | inr second ↦
                  let ends : Ends first.1 second.1 = ends_ok first.1 second.0 second.1 second.2 in
                  let later = entries_from_found n (found ++ first.0 ∷ []) second.1 e (omega (arith, entry_shrinks w ts first.0 first.1 read, ends_shrink first.1 second.1 ends)) second.3 in
                  (later.0, behind_end ts first.0 first.1 second.1 later.0 read ends later.1, later.2)
            ]
      ]
    ]
  ]
    where
      -- no entries stop at the closing brace
      no_brace_stops : (us vs ws : List Token) → Sign kind.CloseBrace us ws → EntriesStop w us vs → ⊥
      no_brace_stops us vs ws s (EntriesStop.entry a b d) = absurd (a (sign_kind kind.CloseBrace us ws s))
      no_brace_stops us vs ws s (EntriesStop.behind {e} x a b) =
          let seen = (sign_sees kind.CloseBrace us ws brace_self s).0 in let other = entry_begins kind.CloseBrace w us e vs brace_apart.0 brace_apart.1 x.is in absurd (cc)
      no_brace_stops us vs ws s (EntriesStop.blank {us = zs} t d) = let seen = sign_kind kind.CloseBrace us ws s in let other = sign_kind kind.Newline us zs t in absurd (cc)
      no_brace_stops us vs ws s (EntriesStop.later {us = zs} {e} i t d) =
          let seen = (sign_sees kind.CloseBrace us ws brace_self s).0 in let other = entry_begins kind.CloseBrace w us e zs brace_apart.0 brace_apart.1 i in absurd (cc)

      behind_end : (ts : List Token) (x : Entry) (us vs ws : List Token) → IsEntry w ts x us → Ends us vs → EntriesStop w vs ws → EntriesStop w ts ws
      behind_end ts x us vs ws i (Ends.newline s) d = EntriesStop.later i s d
      behind_end ts x us vs ws i (Ends.brace {us = zs} s) d = absurd (no_brace_stops us ws zs s d)

  nothing_stops : (ts us : List Token) → length ts ≤ 0 → EntriesStop w ts us → refused {A = List Entry} ts ≡ Err (refusal us)
  nothing_stops ts us small (EntriesStop.entry a b s) =
      let none : entry_of w ts ≡ refused ts = subst (λ zs. entry_of w zs ≡ refused zs) (sym (empty_of ts small)) entry_none in
      ap (λ f. Err f) (faults_same (entry_of w ts) (refusal ts) (refusal us) none ((entry_refuses w).stops ts us s))
  nothing_stops ts us small (EntriesStop.behind {e} x a b) = absurd (omega (arith, entry_shrinks w ts e us x.is))
  nothing_stops ts us small (EntriesStop.blank {us = vs} s d) = absurd (omega (arith, sign_shrinks kind.Newline ts vs s))
  nothing_stops ts us small (EntriesStop.later {us = vs} {e} i s d) = absurd (omega (arith, entry_shrinks w ts e vs i))

  entries_from_stops : (n : ℕ) (found : List Entry) (ts us : List Token) → length ts ≤ n → EntriesStop w ts us → entries_from w n found ts ≡ Err (refusal us)
  unfolding entries_from same_kind
  entries_from_stops zero found ts us small d = nothing_stops ts us small d
  entries_from_stops (suc n) found ts us small (EntriesStop.entry no_brace no_newline s) =
      when_no kind.CloseBrace ts (pure found) (turn n found) (misses_sees kind.CloseBrace ts no_brace)
      ∙ when_no kind.Newline ts (entries_from w n found) (entry_of w >>= after_entry n found) (misses_sees kind.Newline ts no_newline)
      ∙ bind_stops (entry_of w ts) (after_entry n found) (refusal us) ((entry_refuses w).stops ts us s)
  entries_from_stops (suc n) found ts us small (EntriesStop.behind {e} x no_newline no_brace) =
      when_no kind.CloseBrace ts (pure found) (turn n found) (entry_begins kind.CloseBrace w ts e us refl refl x.is)
      ∙ when_no kind.Newline ts (entries_from w n found) (entry_of w >>= after_entry n found) (entry_begins kind.Newline w ts e us refl refl x.is)
      ∙ bind_goes (entry_of w ts) (after_entry n found) e us (whole_is (IsEntry w) (EntryStops w) Anything (entry_of w) (entry_ok w) (entry_refuses w) (entry_reaches w) ts e us x)
      ∙ bind_stops (ending us) (λ _. entries_from w n (found ++ e ∷ [])) (refusal us) (ending_stops us no_newline no_brace)
  entries_from_stops (suc n) found ts rest small (EntriesStop.blank {us} s d) =
      when_no kind.CloseBrace ts (pure found) (turn n found) (sign_other kind.Newline kind.CloseBrace ts us refl s)
      ∙ when_yes kind.Newline ts us (entries_from w n found) (entry_of w >>= after_entry n found) newline_self s
      ∙ entries_from_stops n found us rest (omega (arith, sign_shrinks kind.Newline ts us s)) d
  entries_from_stops (suc n) found ts rest small (EntriesStop.later {us} {vs} {e} i s d) =
      when_no kind.CloseBrace ts (pure found) (turn n found) (entry_begins kind.CloseBrace w ts e us refl refl i)
      ∙ when_no kind.Newline ts (entries_from w n found) (entry_of w >>= after_entry n found) (entry_begins kind.Newline w ts e us refl refl i)
      ∙ bind_goes (entry_of w ts) (after_entry n found) e us (entry_is w ts e us i (ends_follow us vs (Ends.newline s)))
      ∙ bind_goes (ending us) (λ _. entries_from w n (found ++ e ∷ [])) tt vs (ends_is us vs (Ends.newline s))
      ∙ entries_from_stops n (found ++ e ∷ []) vs rest (omega (arith, entry_shrinks w ts e us i, sign_shrinks kind.Newline us vs s)) d

  pub entries_refuse : Refuses (entries w) (EntriesStop w)
  unfolding entries
  entries_refuse = record { found = λ ts e h. entries_from_found (length ts) [] ts e (omega arith) h; stops = λ ts us d. entries_from_stops (length ts) [] ts us (omega arith) d }
