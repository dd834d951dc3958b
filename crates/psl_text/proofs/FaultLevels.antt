-- Terms of any depth: what is refused stops so, and what stops is refused so.
use Rattle.std.proofs.Common.{◌≡◌, ◌≢◌, ℕ, zero, suc, ◌<◌, false, cond, List, [], length, Err, inl, inr, refl, sym, ap, subst, ◌∙◌, arith}
use Rattle.psl_text.specs.declared.fault.TextFault.{TextFault}
use Rattle.psl_text.specs.declared.token.Kind.{Kind}
use Rattle.psl_text.specs.declared.token.Kind.TheVariants as kind
use Rattle.psl_text.specs.declared.token.Token.{Token}
use Rattle.psl_text.specs.declared.tree.Name.{Name}
use Rattle.psl_text.specs.declared.tree.Term.{Term}
use Rattle.psl_text.specs.declared.tree.Term.TheVariants as term
use Rattle.psl_text.specs.Parser.{Parser, and_then, ◌>>=◌, pure, sees, kind_of, eat, spelled, name, refusal}
use Rattle.psl_text.specs.Grammar.{arguments, items, named_term, term_by, level, term_of}
use Rattle.psl_text.specs.Derives.{Sign, Spelled, IsArgument, IsTermOf, IsTerm}
use Rattle.psl_text.specs.Stops.{Misses, TermStopsOf, TermStops}
use Rattle.psl_text.proofs.Steps.{bind_ok, ok_rest, when_yes, when_no, spelled_ok, spelled_is, spelled_sees, sign_sees, sign_shrinks}
use Rattle.psl_text.proofs.TermRules.{IsValue, sign_kind, arguments_ok, arguments_is, items_is, argument_shrinks, name_inside, name_self, text_self, number_self, bracket_inside, bracket_self, paren_inside, paren_self}
use Rattle.psl_text.proofs.LevelRules.{separated_shrinks, by_kind, term_value}
use Rattle.psl_text.proofs.FaultSteps.{refused, ok_not_err, faults_same, bind_err, bind_stops, bind_goes, when_split, next_is, rests_same, spelled_err, sign_spelled, Reaches, Anything}
use Rattle.psl_text.proofs.FaultTerms.{Judges, arguments_refuse, items_refuse}

-- a token of the kind that was seen is not missed
kind_not_missed : (k : Kind) (ts us : List Token) → kind_of ts ≡ k → Misses k ts us → ⊥
kind_not_missed k ts us e (Misses.misses differs) = differs e

module _ (value : Parser Term) (Value : List Token → Term → List Token → Type 0) (ValueStops : List Token → List Token → Type 0) (is : IsValue value Value) (judges : Judges value Value ValueStops) where
  -- behind a name
  abbrev behind_name : Name → Parser Term
  behind_name n = eat kind.OpenParen >>= λ opens. cond opens (arguments value >>= λ given. pure (term.Call n given)) (pure (term.Name n))

  -- ---- what is refused stops so

  named_refused : (ts us : List Token) (n : Name) (e : TextFault) → Sign kind.Name ts us → behind_name n us ≡ Err e → (vs : List Token) × TermStopsOf Value ValueStops ts vs × (e ≡ refusal vs)
  named_refused ts us n e s h = elim (when_split kind.OpenParen us (arguments value >>= λ given. pure (term.Call n given)) (pure (term.Name n)) (Err e) paren_inside h) [
    | inl opens ↦ elim (bind_err (arguments value opens.0) (λ given. pure (term.Call n given)) e opens.2) [
      | inl bad ↦ let found = (arguments_refuse value Value ValueStops is judges).found opens.0 e bad in (found.0, TermStopsOf.call s opens.1 found.1, found.2)
      | inr step ↦ absurd (ok_not_err (pure (term.Call n step.0) step.1) (term.Call n step.0) step.1 e refl step.3)
    ]
    | inr other ↦ absurd (ok_not_err (pure (term.Name n) us) (term.Name n) us e refl other.1)
  ]

  term_found : (k : Kind) (ts : List Token) (e : TextFault) → kind_of ts ≡ k → term_by value k ts ≡ Err e → (us : List Token) × TermStopsOf Value ValueStops ts us × (e ≡ refusal us)
  unfolding named_term
  term_found kind.Text ts e seen h = elim (bind_err (spelled kind.Text ts) (λ n. pure (term.Text n.text n.at)) e h) [
    | inl bad ↦ let found = spelled_err kind.Text ts e bad in absurd (kind_not_missed kind.Text ts found.0 seen found.1)
    | inr step ↦ absurd (ok_not_err (pure (term.Text step.0.text step.0.at) step.1) (term.Text step.0.text step.0.at) step.1 e refl step.3)
  ]
  term_found kind.Number ts e seen h = elim (bind_err (spelled kind.Number ts) (λ n. pure (term.Number n.text n.at)) e h) [
    | inl bad ↦ let found = spelled_err kind.Number ts e bad in absurd (kind_not_missed kind.Number ts found.0 seen found.1)
    | inr step ↦ absurd (ok_not_err (pure (term.Number step.0.text step.0.at) step.1) (term.Number step.0.text step.0.at) step.1 e refl step.3)
  ]
  term_found kind.Name ts e seen h = elim (bind_err (name ts) behind_name e h) [
    | inl bad ↦ let found = spelled_err kind.Name ts e bad in absurd (kind_not_missed kind.Name ts found.0 seen found.1)
    | inr step ↦ named_refused ts step.1 step.0 e (spelled_sees kind.Name ts step.0 step.1 (spelled_ok kind.Name ts step.1 step.0 name_inside step.2)) step.3
  ]
  term_found kind.OpenBracket ts e seen h = elim (bind_err (spelled kind.OpenBracket ts) (λ n. items value >>= λ xs. pure (term.List xs n.at)) e h) [
    | inl bad ↦ let found = spelled_err kind.OpenBracket ts e bad in absurd (kind_not_missed kind.OpenBracket ts found.0 seen found.1)
    | inr step ↦ elim (bind_err (items value step.1) (λ xs. pure (term.List xs step.0.at)) e step.3) [
      | inl bad ↦
          let found = (items_refuse value Value ValueStops is judges).found step.1 e bad in
          (found.0, TermStopsOf.list (spelled_sees kind.OpenBracket ts step.0 step.1 (spelled_ok kind.OpenBracket ts step.1 step.0 bracket_inside step.2)) found.1, found.2)
      | inr given ↦ absurd (ok_not_err (pure (term.List given.0 step.0.at) given.1) (term.List given.0 step.0.at) given.1 e refl given.3)
    ]
  ]
  term_found _ ts e seen h =
      (ts, TermStopsOf.begins (λ t. absurd (cc)) (λ t. absurd (cc)) (λ t. absurd (cc)) (λ t. absurd (cc)), faults_same (refused {A = Term} ts) e (refusal ts) h refl)

  level_found : (ts : List Token) (e : TextFault) → level value ts ≡ Err e → (us : List Token) × TermStopsOf Value ValueStops ts us × (e ≡ refusal us)
  unfolding level
  level_found ts e h = term_found (kind_of ts) ts e refl h

  -- ---- what stops is refused so

  none_begins : (k : Kind) (ts : List Token) → k ≢ kind.Text → k ≢ kind.Number → k ≢ kind.Name → k ≢ kind.OpenBracket → term_by value k ts ≡ Err (refusal ts)
  none_begins kind.Text ts a b c d = absurd (a refl)
  none_begins kind.Number ts a b c d = absurd (b refl)
  none_begins kind.Name ts a b c d = absurd (c refl)
  none_begins kind.OpenBracket ts a b c d = absurd (d refl)
  none_begins _ ts a b c d = refl

  level_stops : (ts us : List Token) → TermStopsOf Value ValueStops ts us → level value ts ≡ Err (refusal us)
  unfolding level named_term
  level_stops ts us (TermStopsOf.begins a b c d) = none_begins (kind_of ts) ts a b c d
  level_stops ts rest (TermStopsOf.call {us} {vs} s p d) =
      let n = sign_spelled kind.Name ts us s in
      by_kind value Value is kind.Name ts us s ∙ bind_goes (name ts) behind_name n.0 us (spelled_is kind.Name ts us n.0 name_self n.1)
      ∙ when_yes kind.OpenParen us vs (arguments value >>= λ given. pure (term.Call n.0 given)) (pure (term.Name n.0)) paren_self p
      ∙ bind_stops (arguments value vs) (λ given. pure (term.Call n.0 given)) (refusal rest) ((arguments_refuse value Value ValueStops is judges).stops vs rest d)
  level_stops ts rest (TermStopsOf.list {us} s d) =
      let n = sign_spelled kind.OpenBracket ts us s in
      by_kind value Value is kind.OpenBracket ts us s
      ∙ bind_goes (spelled kind.OpenBracket ts) (λ m. items value >>= λ xs. pure (term.List xs m.at)) n.0 us (spelled_is kind.OpenBracket ts us n.0 bracket_self n.1)
      ∙ bind_stops (items value us) (λ xs. pure (term.List xs n.0.at)) (refusal rest) ((items_refuse value Value ValueStops is judges).stops us rest d)

  -- ---- how far it goes

  level_name : (ts us : List Token) (n : Name) → Spelled kind.Name ts n us → level value ts ≡ behind_name n us
  unfolding named_term
  level_name ts us n s = by_kind value Value is kind.Name ts us (spelled_sees kind.Name ts n us s) ∙ bind_goes (name ts) behind_name n us (spelled_is kind.Name ts us n name_self s)

  call_goes_on : (ts us vs : List Token) (n : Name) → Spelled kind.Name ts n us → Sign kind.OpenParen us vs → level value ts ≡ and_then (arguments value vs) (λ given. pure (term.Call n given))
  call_goes_on ts us vs n s p = level_name ts us n s ∙ when_yes kind.OpenParen us vs (arguments value >>= λ given. pure (term.Call n given)) (pure (term.Name n)) paren_self p

  level_reaches : Reaches (level value) Anything (IsTermOf Value)
  level_reaches ts v rest (IsTermOf.text {n} s) =
      inl (by_kind value Value is kind.Text ts rest (spelled_sees kind.Text ts n rest s) ∙ bind_goes (spelled kind.Text ts) (λ m. pure (term.Text m.text m.at)) n rest (spelled_is kind.Text ts rest n text_self s))
  level_reaches ts v rest (IsTermOf.number {n} s) =
      inl (by_kind value Value is kind.Number ts rest (spelled_sees kind.Number ts n rest s) ∙ bind_goes (spelled kind.Number ts) (λ m. pure (term.Number m.text m.at)) n rest (spelled_is kind.Number ts rest n number_self s))
  level_reaches ts v rest (IsTermOf.call {us} {vs} {n} {given} s p d) =
      inl (call_goes_on ts us vs n s p ∙ bind_goes (arguments value vs) (λ xs. pure (term.Call n xs)) given rest (arguments_is value Value is vs given rest d))
  level_reaches ts v rest (IsTermOf.list {us} {n} {given} s d) =
      inl (by_kind value Value is kind.OpenBracket ts us (spelled_sees kind.OpenBracket ts n us s)
      ∙ bind_goes (spelled kind.OpenBracket ts) (λ m. items value >>= λ xs. pure (term.List xs m.at)) n us (spelled_is kind.OpenBracket ts us n bracket_self s)
      ∙ bind_goes (items value us) (λ xs. pure (term.List xs n.at)) given rest (items_is value Value is us given rest d))
  level_reaches ts v rest (IsTermOf.name {n} s) = elim (next_is kind.OpenParen rest paren_inside) [
    | inr none ↦ inl (level_name ts rest n s ∙ when_no kind.OpenParen rest (arguments value >>= λ given. pure (term.Call n given)) (pure (term.Name n)) none)
    | inl opens ↦ inr (record {
      left = tt;
      shorter = λ x us h.
          let step = bind_ok (arguments value opens.0) (λ given. pure (term.Call n given)) x us (sym (call_goes_on ts rest opens.0 n s opens.1) ∙ h) in
          let same : step.1 ≡ us = ok_rest (term.Call n step.0) x step.1 us step.3 in
          let shrinks = separated_shrinks (IsArgument Value) kind.CloseParen (argument_shrinks value Value is) opens.0 step.0 step.1 (arguments_ok value Value is opens.0 step.0 step.1 step.2) in
          let below : length step.1 < length rest = omega (arith, shrinks, sign_shrinks kind.OpenParen rest opens.0 opens.1) in
          subst (λ zs. length zs < length rest) same below;
    })
  ]

  level_named : (ts us : List Token) (n : Name) (v : Term) (rest : List Token) → IsTermOf Value ts v rest → Spelled kind.Name ts n us → sees kind.OpenParen us ≡ false → rest ≡ us
  level_named ts us n v rest (IsTermOf.text {n = m} s) t e =
      let a = sign_kind kind.Text ts rest (spelled_sees kind.Text ts m rest s) in let b = sign_kind kind.Name ts us (spelled_sees kind.Name ts n us t) in absurd (cc)
  level_named ts us n v rest (IsTermOf.number {n = m} s) t e =
      let a = sign_kind kind.Number ts rest (spelled_sees kind.Number ts m rest s) in let b = sign_kind kind.Name ts us (spelled_sees kind.Name ts n us t) in absurd (cc)
  level_named ts us n v rest (IsTermOf.name {n = m} s) t e = rests_same kind.Name kind.Name ts rest us name_self name_self (spelled_sees kind.Name ts m rest s) (spelled_sees kind.Name ts n us t)
  level_named ts us n v rest (IsTermOf.call {us = zs} {vs} {n = m} s p d) t e =
      let same : zs ≡ us = rests_same kind.Name kind.Name ts zs us name_self name_self (spelled_sees kind.Name ts m zs s) (spelled_sees kind.Name ts n us t) in
      let seen = (sign_sees kind.OpenParen zs vs paren_self p).0 in absurd (cc)
  level_named ts us n v rest (IsTermOf.list {us = zs} {n = m} s d) t e =
      let a = sign_kind kind.OpenBracket ts zs (spelled_sees kind.OpenBracket ts m zs s) in let b = sign_kind kind.Name ts us (spelled_sees kind.Name ts n us t) in absurd (cc)

  level_none : level value [] ≡ refused []
  unfolding level kind_of
  level_none = refl

  pub level_judges : Judges (level value) (IsTermOf Value) (TermStopsOf Value ValueStops)
  level_judges = record {
    refuses = record { found = level_found; stops = level_stops };
    reaches = level_reaches;
    none = level_none;
    named = level_named;
  }

-- a term of any depth
pub term_judges : (depth : ℕ) → Judges (term_of depth) (IsTerm depth) (TermStops depth)
unfolding term_of IsTerm TermStops
term_judges zero = record {
  refuses = record {
    found = λ ts e h. (ts, refl, faults_same (refused {A = Term} ts) e (refusal ts) h refl);
    stops = λ ts us s. ap (λ zs. Err (refusal zs)) s;
  };
  reaches = λ ts v us h. absurd h;
  none = refl;
  named = λ ts us n v rest h s e. absurd h;
}
term_judges (suc depth) = level_judges (term_of depth) (IsTerm depth) (TermStops depth) (term_value depth) (term_judges depth)
