-- Settings, members and fields: what is refused stops so, and what stops is refused so.
use Rattle.std.proofs.Common.{◌≡◌, ℕ, ◌<◌, false, cond, List, length, Ok, Err, ◌⊎◌, inl, inr, refl, sym, subst, ◌∙◌, arith}
use Rattle.psl_text.specs.declared.fault.TextFault.{TextFault}
use Rattle.psl_text.specs.declared.token.Kind.TheVariants as kind
use Rattle.psl_text.specs.declared.token.Token.{Token}
use Rattle.psl_text.specs.declared.tree.Name.{Name}
use Rattle.psl_text.specs.declared.tree.Attribute.{Attribute}
use Rattle.psl_text.specs.declared.tree.Mark.{Mark}
use Rattle.psl_text.specs.declared.tree.Mark.TheVariants as mark
use Rattle.psl_text.specs.declared.tree.Entry.{Entry}
use Rattle.psl_text.specs.declared.tree.Entry.TheVariants as entry
use Rattle.psl_text.specs.declared.tree.Term.{Term}
use Rattle.psl_text.specs.Parser.{Parser, ◌>>=◌, ◌>>◌, pure, sees, same_kind, eat, expect, name, refusal}
use Rattle.psl_text.specs.Grammar.{max_depth, whole_term, attributes, mark_of, setting, field, member}
use Rattle.psl_text.specs.Derives.{Sign, Spelled, IsTerm, IsMark, AreAttributes}
use Rattle.psl_text.specs.Faults.{MarkStops, SettingStops, FieldStops, MemberStops}
use Rattle.psl_text.proofs.Steps.{bind_ok, ok_rest, when_yes, when_no, expect_ok, expect_sign, spelled_ok, spelled_is, spelled_sees, sign_other, sign_shrinks}
use Rattle.psl_text.proofs.TermRules.{name_inside, name_self, bracket_inside, bracket_self, close_bracket_inside, close_bracket_self}
use Rattle.psl_text.proofs.AttributeRules.{attributes_ok, attributes_shrink}
use Rattle.psl_text.proofs.EntryRules.{question_inside, question_self, equals_inside, equals_self, mark_ok, mark_is}
use Rattle.psl_text.proofs.FaultSteps.{ok_not_err, bind_err, bind_stops, bind_goes, when_split, next_is, expect_err, expect_misses, spelled_err, spelled_misses, sign_spelled, Refuses, Further, Reaches, Anything}
use Rattle.psl_text.proofs.FaultLevels.{term_judges}
use Rattle.psl_text.proofs.FaultAttributes.{stop_begins, attributes_refuse, attributes_reach, no_attributes}

-- ---- marks

abbrev pub closing : Parser Mark
closing = expect kind.CloseBracket >> pure mark.Many

abbrev pub no_question : Parser Mark
no_question = eat kind.OpenBracket >>= λ opens. cond opens closing (pure mark.One)

mark_found : (ts : List Token) (e : TextFault) → mark_of ts ≡ Err e → (us : List Token) × MarkStops ts us × (e ≡ refusal us)
unfolding mark_of
mark_found ts e h = elim (when_split kind.Question ts (pure mark.Optional) no_question (Err e) question_inside h) [
  | inl asks ↦ absurd (ok_not_err (pure mark.Optional asks.0) mark.Optional asks.0 e refl asks.2)
  | inr other ↦ elim (when_split kind.OpenBracket ts closing (pure mark.One) (Err e) bracket_inside other.1) [
    | inl opens ↦ elim (bind_err (expect kind.CloseBracket opens.0) (λ _. pure mark.Many) e opens.2) [
      | inl bad ↦ let found = expect_err kind.CloseBracket opens.0 e bad in (found.0, MarkStops.many opens.1 found.1, found.2)
      | inr step ↦ absurd (ok_not_err (pure mark.Many step.1) mark.Many step.1 e refl step.3)
    ]
    | inr none ↦ absurd (ok_not_err (pure mark.One ts) mark.One ts e refl none.1)
  ]
]

bracket_opens : (ts us : List Token) → Sign kind.OpenBracket ts us → mark_of ts ≡ closing us
unfolding mark_of same_kind
bracket_opens ts us s =
    when_no kind.Question ts (pure mark.Optional) no_question (sign_other kind.OpenBracket kind.Question ts us refl s) ∙ when_yes kind.OpenBracket ts us closing (pure mark.One) bracket_self s

mark_stops : (ts us : List Token) → MarkStops ts us → mark_of ts ≡ Err (refusal us)
mark_stops ts rest (MarkStops.many {us} s m) = bracket_opens ts us s ∙ bind_stops (expect kind.CloseBracket us) (λ _. pure mark.Many) (refusal rest) (expect_misses kind.CloseBracket us rest m)

mark_reaches : Reaches mark_of (λ ts. sees kind.At ts ≡ false) IsMark
unfolding mark_of same_kind
mark_reaches ts m rest (IsMark.optional s) = inl (when_yes kind.Question ts rest (pure mark.Optional) no_question question_self s)
mark_reaches ts m rest (IsMark.many {us} s c) = inl (bracket_opens ts us s ∙ bind_goes (expect kind.CloseBracket us) (λ _. pure mark.Many) tt rest (expect_sign kind.CloseBracket us rest close_bracket_self c))
mark_reaches ts m rest IsMark.one = elim (next_is kind.Question ts question_inside) [
  | inl asks ↦ inr (record {
    left = sign_other kind.Question kind.At ts asks.0 refl asks.1;
    shorter = λ x us h.
        let same : asks.0 ≡ us = ok_rest mark.Optional x asks.0 us (sym (when_yes kind.Question ts asks.0 (pure mark.Optional) no_question question_self asks.1) ∙ h) in
        subst (λ zs. length zs < length ts) same (sign_shrinks kind.Question ts asks.0 asks.1);
  })
  | inr no_mark ↦ elim (next_is kind.OpenBracket ts bracket_inside) [
    | inl opens ↦ inr (record {
      left = sign_other kind.OpenBracket kind.At ts opens.0 refl opens.1;
      shorter = λ x us h.
          let step = bind_ok (expect kind.CloseBracket opens.0) (λ _. pure mark.Many) x us (sym (bracket_opens ts opens.0 opens.1) ∙ h) in
          let same : step.1 ≡ us = ok_rest mark.Many x step.1 us step.3 in
          let closes = sign_shrinks kind.CloseBracket opens.0 step.1 (expect_ok kind.CloseBracket opens.0 step.1 step.0 close_bracket_inside step.2) in
          let below : length step.1 < length ts = omega (arith, closes, sign_shrinks kind.OpenBracket ts opens.0 opens.1) in
          subst (λ zs. length zs < length ts) same below;
    })
    | inr none ↦ inl (mark_is ts mark.One ts IsMark.one no_mark none)
  ]
]

-- ---- settings

abbrev pub behind_equals : Name → Parser Entry
behind_equals n = whole_term >>= λ v. pure (entry.Setting n v)

abbrev pub after_name : Name → Parser Entry
after_name n = expect kind.Equals >> behind_equals n

pub setting_found : (ts : List Token) (e : TextFault) → setting ts ≡ Err e → (us : List Token) × SettingStops ts us × (e ≡ refusal us)
unfolding setting
setting_found ts e h = elim (bind_err (name ts) after_name e h) [
  | inl bad ↦ let found = spelled_err kind.Name ts e bad in (found.0, SettingStops.name found.1, found.2)
  | inr first ↦
      let called = spelled_sees kind.Name ts first.0 first.1 (spelled_ok kind.Name ts first.1 first.0 name_inside first.2) in
      elim (bind_err (expect kind.Equals first.1) (λ _. behind_equals first.0) e first.3) [
        | inl bad ↦ let found = expect_err kind.Equals first.1 e bad in (found.0, SettingStops.equals called found.1, found.2)
        | inr second ↦ elim (bind_err (whole_term second.1) (λ v. pure (entry.Setting first.0 v)) e second.3) [
          | inl bad ↦
              let found = (term_judges max_depth).refuses.found second.1 e bad in
              (found.0, SettingStops.value called (expect_ok kind.Equals first.1 second.1 second.0 equals_inside second.2) found.1, found.2)
          | inr third ↦ absurd (ok_not_err (pure (entry.Setting first.0 third.0) third.1) (entry.Setting first.0 third.0) third.1 e refl third.3)
        ]
      ]
]

value_follows : (ts us vs : List Token) (n : Name) → Spelled kind.Name ts n us → Sign kind.Equals us vs → setting ts ≡ behind_equals n vs
unfolding setting
value_follows ts us vs n s q = bind_goes (name ts) after_name n us (spelled_is kind.Name ts us n name_self s) ∙ bind_goes (expect kind.Equals us) (λ _. behind_equals n) tt vs (expect_sign kind.Equals us vs equals_self q)

pub setting_stops : (ts us : List Token) → SettingStops ts us → setting ts ≡ Err (refusal us)
unfolding setting
setting_stops ts us (SettingStops.name m) = bind_stops (name ts) after_name (refusal us) (spelled_misses kind.Name ts us m)
setting_stops ts rest (SettingStops.equals {us} s m) =
    let n = sign_spelled kind.Name ts us s in
    bind_goes (name ts) after_name n.0 us (spelled_is kind.Name ts us n.0 name_self n.1) ∙ bind_stops (expect kind.Equals us) (λ _. behind_equals n.0) (refusal rest) (expect_misses kind.Equals us rest m)
setting_stops ts rest (SettingStops.value {us} {vs} s q t) =
    let n = sign_spelled kind.Name ts us s in
    value_follows ts us vs n.0 n.1 q ∙ bind_stops (whole_term vs) (λ v. pure (entry.Setting n.0 v)) (refusal rest) ((term_judges max_depth).refuses.stops vs rest t)

pub setting_reaches : (ts us vs : List Token) (n : Name) (v : Term) (rest : List Token) → Spelled kind.Name ts n us → Sign kind.Equals us vs → IsTerm max_depth vs v rest
    → (setting ts ≡ Ok (entry.Setting n v, rest)) ⊎ Further setting Anything ts rest
setting_reaches ts us vs n v rest s q t = elim ((term_judges max_depth).reaches vs v rest t) [
  | inl e ↦ inl (value_follows ts us vs n s q ∙ bind_goes (whole_term vs) (λ x. pure (entry.Setting n x)) v rest e)
  | inr f ↦ inr (record {
    left = tt;
    shorter = λ x zs h.
        let step = bind_ok (whole_term vs) (λ y. pure (entry.Setting n y)) x zs (sym (value_follows ts us vs n s q) ∙ h) in
        let same : step.1 ≡ zs = ok_rest (entry.Setting n step.0) x step.1 zs step.3 in
        subst (λ ws. length ws < length rest) same (f.shorter step.0 step.1 step.2);
  })
]

-- ---- members

module _ (above : List (List ℕ)) where
  abbrev pub behind_member : Name → Parser Entry
  behind_member n = attributes >>= λ found. pure (entry.Member n found above)

  member_found : (ts : List Token) (e : TextFault) → member above ts ≡ Err e → (us : List Token) × MemberStops ts us × (e ≡ refusal us)
  unfolding member
  member_found ts e h = elim (bind_err (name ts) behind_member e h) [
    | inl bad ↦ let found = spelled_err kind.Name ts e bad in (found.0, MemberStops.name found.1, found.2)
    | inr first ↦ elim (bind_err (attributes first.1) (λ found. pure (entry.Member first.0 found above)) e first.3) [
      | inl bad ↦
          let found = attributes_refuse.found first.1 e bad in
          (found.0, MemberStops.attributes (spelled_sees kind.Name ts first.0 first.1 (spelled_ok kind.Name ts first.1 first.0 name_inside first.2)) found.1, found.2)
      | inr second ↦ absurd (ok_not_err (pure (entry.Member first.0 second.0 above) second.1) (entry.Member first.0 second.0 above) second.1 e refl second.3)
    ]
  ]

  member_stops : (ts us : List Token) → MemberStops ts us → member above ts ≡ Err (refusal us)
  unfolding member
  member_stops ts us (MemberStops.name m) = bind_stops (name ts) behind_member (refusal us) (spelled_misses kind.Name ts us m)
  member_stops ts rest (MemberStops.attributes {us} s d) =
      let n = sign_spelled kind.Name ts us s in
      bind_goes (name ts) behind_member n.0 us (spelled_is kind.Name ts us n.0 name_self n.1)
      ∙ bind_stops (attributes us) (λ found. pure (entry.Member n.0 found above)) (refusal rest) (attributes_refuse.stops us rest d)

  pub member_refuses : Refuses (member above) MemberStops
  member_refuses = record { found = member_found; stops = member_stops }

  pub member_reaches : (ts us : List Token) (n : Name) (found : List Attribute) (rest : List Token) → Spelled kind.Name ts n us → AreAttributes us found rest
      → (member above ts ≡ Ok (entry.Member n found above, rest)) ⊎ Further (member above) Anything ts rest
  unfolding member
  member_reaches ts us n found rest s d =
      let goes = bind_goes (name ts) behind_member n us (spelled_is kind.Name ts us n name_self s) in
      elim (attributes_reach us found rest d) [
        | inl e ↦ inl (goes ∙ bind_goes (attributes us) (λ xs. pure (entry.Member n xs above)) found rest e)
        | inr f ↦ inr (record {
          left = tt;
          shorter = λ x zs h.
              let step = bind_ok (attributes us) (λ xs. pure (entry.Member n xs above)) x zs (sym goes ∙ h) in
              let same : step.1 ≡ zs = ok_rest (entry.Member n step.0 above) x step.1 zs step.3 in
              subst (λ ws. length ws < length rest) same (f.shorter step.0 step.1 step.2);
        })
      ]

  -- ---- fields

  abbrev pub behind_mark : Name → Name → Mark → Parser Entry
  behind_mark n k m = attributes >>= λ found. pure (entry.Field n k m found above)

  abbrev pub behind_type : Name → Name → Parser Entry
  behind_type n k = mark_of >>= behind_mark n k

  abbrev pub behind_name : Name → Parser Entry
  behind_name n = name >>= behind_type n

  field_found : (ts : List Token) (e : TextFault) → field above ts ≡ Err e → (us : List Token) × FieldStops ts us × (e ≡ refusal us)
  unfolding field
  field_found ts e h = elim (bind_err (name ts) behind_name e h) [
    | inl bad ↦ let found = spelled_err kind.Name ts e bad in (found.0, FieldStops.name found.1, found.2)
    | inr first ↦
        let called = spelled_sees kind.Name ts first.0 first.1 (spelled_ok kind.Name ts first.1 first.0 name_inside first.2) in
        elim (bind_err (name first.1) (behind_type first.0) e first.3) [
          | inl bad ↦ let found = spelled_err kind.Name first.1 e bad in (found.0, FieldStops.type called found.1, found.2)
          | inr second ↦
              let typed = spelled_sees kind.Name first.1 second.0 second.1 (spelled_ok kind.Name first.1 second.1 second.0 name_inside second.2) in
              elim (bind_err (mark_of second.1) (behind_mark first.0 second.0) e second.3) [
                | inl bad ↦ let found = mark_found second.1 e bad in (found.0, FieldStops.mark called typed found.1, found.2)
                | inr third ↦ elim (bind_err (attributes third.1) (λ found. pure (entry.Field first.0 second.0 third.0 found above)) e third.3) [
                  | inl bad ↦
                      let found = attributes_refuse.found third.1 e bad in
                      (found.0, FieldStops.attributes called typed (mark_ok second.1 third.0 third.1 third.2) found.1, found.2)
                  | inr fourth ↦
                      absurd (ok_not_err (pure (entry.Field first.0 second.0 third.0 fourth.0 above) fourth.1) (entry.Field first.0 second.0 third.0 fourth.0 above) fourth.1 e refl fourth.3)
                ]
              ]
        ]
  ]

  type_follows : (ts us vs : List Token) (n k : Name) → Spelled kind.Name ts n us → Spelled kind.Name us k vs → field above ts ≡ behind_type n k vs
  unfolding field
  type_follows ts us vs n k s t = bind_goes (name ts) behind_name n us (spelled_is kind.Name ts us n name_self s) ∙ bind_goes (name us) (behind_type n) k vs (spelled_is kind.Name us vs k name_self t)

  field_stops : (ts us : List Token) → FieldStops ts us → field above ts ≡ Err (refusal us)
  unfolding field same_kind
  field_stops ts us (FieldStops.name m) = bind_stops (name ts) behind_name (refusal us) (spelled_misses kind.Name ts us m)
  field_stops ts rest (FieldStops.type {us} s m) =
      let n = sign_spelled kind.Name ts us s in
      bind_goes (name ts) behind_name n.0 us (spelled_is kind.Name ts us n.0 name_self n.1) ∙ bind_stops (name us) (behind_type n.0) (refusal rest) (spelled_misses kind.Name us rest m)
  field_stops ts rest (FieldStops.mark {us} {vs} s t m) =
      let n = sign_spelled kind.Name ts us s in
      let k = sign_spelled kind.Name us vs t in
      type_follows ts us vs n.0 k.0 n.1 k.1 ∙ bind_stops (mark_of vs) (behind_mark n.0 k.0) (refusal rest) (mark_stops vs rest m)
  field_stops ts rest (FieldStops.attributes {us} {vs} {ws} {m} s t h d) =
      let n = sign_spelled kind.Name ts us s in
      let k = sign_spelled kind.Name us vs t in
      let at = stop_begins ws rest d in
      type_follows ts us vs n.0 k.0 n.1 k.1
      ∙ bind_goes (mark_of vs) (behind_mark n.0 k.0) m ws (mark_is vs m ws h (sign_other kind.At kind.Question ws at.0 refl at.1) (sign_other kind.At kind.OpenBracket ws at.0 refl at.1))
      ∙ bind_stops (attributes ws) (λ found. pure (entry.Field n.0 k.0 m found above)) (refusal rest) (attributes_refuse.stops ws rest d)

  pub field_refuses : Refuses (field above) FieldStops
  field_refuses = record { found = field_found; stops = field_stops }

  pub field_reaches : (ts us vs ws : List Token) (n k : Name) (m : Mark) (found : List Attribute) (rest : List Token) → Spelled kind.Name ts n us → Spelled kind.Name us k vs → IsMark vs m ws → AreAttributes ws found rest
      → (field above ts ≡ Ok (entry.Field n k m found above, rest)) ⊎ Further (field above) Anything ts rest
  field_reaches ts us vs ws n k m found rest s t h d = elim (mark_reaches vs m ws h) [
    | inl e ↦
        let goes = type_follows ts us vs n k s t ∙ bind_goes (mark_of vs) (behind_mark n k) m ws e in
        elim (attributes_reach ws found rest d) [
          | inl a ↦ inl (goes ∙ bind_goes (attributes ws) (λ xs. pure (entry.Field n k m xs above)) found rest a)
          | inr f ↦ inr (record {
            left = tt;
            shorter = λ x zs g.
                let step = bind_ok (attributes ws) (λ xs. pure (entry.Field n k m xs above)) x zs (sym goes ∙ g) in
                let same : step.1 ≡ zs = ok_rest (entry.Field n k m step.0 above) x step.1 zs step.3 in
                subst (λ qs. length qs < length rest) same (f.shorter step.0 step.1 step.2);
          })
        ]
    | inr f ↦
        let none : ws ≡ rest = no_attributes ws found rest d f.left in
        inr (record {
          left = tt;
          shorter = λ x zs g.
              let first = bind_ok (mark_of vs) (behind_mark n k) x zs (sym (type_follows ts us vs n k s t) ∙ g) in
              let second = bind_ok (attributes first.1) (λ xs. pure (entry.Field n k first.0 xs above)) x zs first.3 in
              let same : second.1 ≡ zs = ok_rest (entry.Field n k first.0 second.0 above) x second.1 zs second.3 in
              let shrinks = attributes_shrink first.1 second.0 second.1 (attributes_ok first.1 second.0 second.1 second.2) in
              let below : length second.1 < length ws = omega (arith, shrinks, f.shorter first.0 first.1 first.2) in
              subst (λ qs. length zs < length qs) none (subst (λ qs. length qs < length ws) same below);
        })
  ]
