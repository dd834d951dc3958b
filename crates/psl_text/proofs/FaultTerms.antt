-- Arguments and terms: what is refused stops so, and what stops is refused so.
use Rattle.std.proofs.Common.{◌≡◌, ◌≢◌, ◌<◌, Bool, true, false, cond, List, [], length, Option, Some, None, Ok, Err, ◌⊎◌, inl, inr, refl, sym, ap, subst, ◌∙◌, arith}
use Rattle.psl_text.specs.declared.fault.TextFault.{TextFault}
use Rattle.psl_text.specs.declared.token.Kind.{Kind}
use Rattle.psl_text.specs.declared.token.Kind.TheVariants as kind
use Rattle.psl_text.specs.declared.token.Token.{Token}
use Rattle.psl_text.specs.declared.tree.Name.{Name}
use Rattle.psl_text.specs.declared.tree.Term.{Term}
use Rattle.psl_text.specs.declared.tree.Argument.{Argument, roll-Argument}
use Rattle.psl_text.specs.Scan.{is_fault}
use Rattle.psl_text.specs.Parser.{Parser, ◌>>=◌, pure, sees, same_kind, kind_of, rest_of, refusal}
use Rattle.psl_text.specs.Grammar.{named_by, argument_name, argument, arguments, items}
use Rattle.psl_text.specs.Derives.{Sign, Spelled, IsArgument}
use Rattle.psl_text.specs.Stops.{ArgumentStops, SeparatedStops}
use Rattle.psl_text.proofs.Steps.{bind_ok, ok_rest, sees_sign, sign_sees, sign_shrinks, spelled_sees}
use Rattle.psl_text.proofs.TermRules.{IsValue, sign_kind, stops, stop_comma, named_yes, unnamed_name, argument_ok, argument_is, argument_begins, argument_shrinks, name_inside, name_self, colon_inside, close_paren_inside, close_bracket_inside}
use Rattle.psl_text.proofs.FaultSteps.{refused, ok_not_err, faults_same, bind_err, bind_stops, bind_goes, sees_misses, kind_other, sign_spelled, rests_same, next_is, Refuses, Further, Reaches, Anything}
use Rattle.psl_text.proofs.FaultSeparate.{separated_found, separated_stops}

-- ---- the name of an argument

colon_no_paren : same_kind kind.Colon kind.OpenParen ≡ false
unfolding same_kind
colon_no_paren = refl

named_fault_by : (k : Kind) (ts : List Token) → is_fault k ≡ true → named_by k ts ≡ Err (refusal (rest_of ts))
named_fault_by kind.BadCharacter ts e = refl
named_fault_by kind.Unclosed ts e = refl
named_fault_by _ ts e = absurd (cc)

-- what is no token behind a name
pub named_fault : (ts us : List Token) → Sign kind.Name ts us → is_fault (kind_of us) ≡ true → argument_name ts ≡ Err (refusal us)
unfolding argument_name
named_fault ts us s f =
    let seen = sign_sees kind.Name ts us name_self s in
    ap (λ b. cond b (named_by (kind_of (rest_of ts)) ts) (Ok (None, ts))) seen.0 ∙ ap (λ r. named_by (kind_of r) ts) seen.1
    ∙ named_fault_by (kind_of us) ts f ∙ ap (λ r. Err (refusal r)) seen.1

-- neither a colon nor what is no token stands behind a name
abbrev pub IsPlain : List Token → Type 0
IsPlain ts = (n : Name) (vs : List Token) → Spelled kind.Name ts n vs → (kind_of vs ≢ kind.Colon) × (is_fault (kind_of vs) ≡ false)

-- how an argument begins
pub data Begins (ts : List Token) : Type 0 where
  named : (us vs : List Token) (n : Name) → Spelled kind.Name ts n us → Sign kind.Colon us vs → argument_name ts ≡ Ok (Some n, vs) → Begins ts
  no_token : (us : List Token) (n : Name) → Spelled kind.Name ts n us → is_fault (kind_of us) ≡ true → argument_name ts ≡ Err (refusal us) → Begins ts
  plain : IsPlain ts → argument_name ts ≡ Ok (None, ts) → Begins ts

begins_name : (ts us : List Token) (n : Name) → Spelled kind.Name ts n us → Begins ts
unfolding sees
begins_name ts us n s = elim (next_is kind.Colon us colon_inside) [
  | inl colon ↦ Begins.named us colon.0 n s colon.1 (named_yes ts us colon.0 n s colon.1)
  | inr no_colon ↦ by_test (is_fault (kind_of us)) refl no_colon
]
  where
    by_test : (b : Bool) → is_fault (kind_of us) ≡ b → sees kind.Colon us ≡ false → Begins ts
    by_test true f no_colon = Begins.no_token us n s f (named_fault ts us (spelled_sees kind.Name ts n us s) f)
    by_test false f no_colon = Begins.plain plain_here (unnamed_name ts us n s no_colon f)
      where
        plain_here : IsPlain ts
        plain_here m vs t =
            let same : us ≡ vs = rests_same kind.Name kind.Name ts us vs name_self name_self (spelled_sees kind.Name ts n us s) (spelled_sees kind.Name ts m vs t) in
            (sees_misses kind.Colon vs (subst (λ zs. sees kind.Colon zs ≡ false) same no_colon), subst (λ zs. is_fault (kind_of zs) ≡ false) same f)

pub begins : (ts : List Token) → Begins ts
unfolding argument_name
begins ts = by_test (sees kind.Name ts) refl
  where
    by_test : (b : Bool) → sees kind.Name ts ≡ b → Begins ts
    by_test true e = let s = sees_sign kind.Name ts name_inside e in let n = sign_spelled kind.Name ts (rest_of ts) s in begins_name ts (rest_of ts) n.0 n.1
    by_test false e = Begins.plain (λ n vs s. absurd (no_name n vs s)) (ap (λ b. cond b (named_by (kind_of (rest_of ts)) ts) (Ok (None, ts))) e)
      where
        no_name : (n : Name) (vs : List Token) → Spelled kind.Name ts n vs → ⊥
        no_name n vs s = let seen = (sign_sees kind.Name ts vs name_self (spelled_sees kind.Name ts n vs s)).0 in absurd (cc)

pub plain_name : (ts : List Token) → IsPlain ts → Begins ts → argument_name ts ≡ Ok (None, ts)
plain_name ts p (Begins.named us vs n s c e) = absurd ((p n us s).0 (sign_kind kind.Colon us vs c))
plain_name ts p (Begins.no_token us n s f e) = let other = (p n us s).1 in absurd (cc)
plain_name ts p (Begins.plain q e) = e

-- ---- what holds of a parser of values, of its rule and of where it stops

pub record Judges (value : Parser Term) (Value : List Token → Term → List Token → Type 0) (ValueStops : List Token → List Token → Type 0) : Type 0 where
  pub refuses : Refuses value ValueStops
  pub reaches : Reaches value Anything Value
  pub none : value [] ≡ refused []
  pub named : (ts us : List Token) (n : Name) (v : Term) (rest : List Token) → Value ts v rest → Spelled kind.Name ts n us → sees kind.OpenParen us ≡ false → rest ≡ us

module _ (value : Parser Term) (Value : List Token → Term → List Token → Type 0) (ValueStops : List Token → List Token → Type 0) (is : IsValue value Value) (judges : Judges value Value ValueStops) where
  -- behind the name
  abbrev with_name : Option Name → Parser Argument
  with_name o = value >>= λ v. pure (roll-Argument (record { name = o; value = v }))

  pub after_name : (ts us : List Token) (o : Option Name) → argument_name ts ≡ Ok (o, us) → argument value ts ≡ with_name o us
  unfolding argument
  after_name ts us o e = bind_goes (argument_name ts) with_name o us e

  pub no_name : (ts : List Token) (e : TextFault) → argument_name ts ≡ Err e → argument value ts ≡ Err e
  unfolding argument
  no_name ts e h = bind_stops (argument_name ts) with_name e h

  value_refused : (o : Option Name) (us : List Token) (e : TextFault) → with_name o us ≡ Err e → (vs : List Token) × ValueStops us vs × (e ≡ refusal vs)
  value_refused o us e h = elim (bind_err (value us) (λ v. pure (roll-Argument (record { name = o; value = v }))) e h) [
    | inl bad ↦ judges.refuses.found us e bad
    | inr step ↦ absurd (ok_not_err (pure (roll-Argument (record { name = o; value = step.0 })) step.1) (roll-Argument (record { name = o; value = step.0 })) step.1 e refl step.3)
  ]

  argument_found : (ts : List Token) (e : TextFault) → argument value ts ≡ Err e → (us : List Token) × ArgumentStops ValueStops ts us × (e ≡ refusal us)
  argument_found ts e h = by_name (begins ts)
    where
      by_name : Begins ts → (us : List Token) × ArgumentStops ValueStops ts us × (e ≡ refusal us)
      by_name (Begins.named us vs n s c b) =
          let found = value_refused (Some n) vs e (sym (after_name ts vs (Some n) b) ∙ h) in
          (found.0, ArgumentStops.named (spelled_sees kind.Name ts n us s) c found.1, found.2)
      by_name (Begins.no_token us n s f b) = (us, ArgumentStops.no_token (spelled_sees kind.Name ts n us s) f, faults_same (argument value ts) e (refusal us) h (no_name ts (refusal us) b))
      by_name (Begins.plain p b) = let found = value_refused None ts e (sym (after_name ts ts None b) ∙ h) in (found.0, ArgumentStops.plain p found.1, found.2)

  argument_stops : (ts us : List Token) → ArgumentStops ValueStops ts us → argument value ts ≡ Err (refusal us)
  argument_stops ts us (ArgumentStops.plain p s) =
      after_name ts ts None (plain_name ts p (begins ts)) ∙ bind_stops (value ts) (λ v. pure (roll-Argument (record { name = None; value = v }))) (refusal us) (judges.refuses.stops ts us s)
  argument_stops ts rest (ArgumentStops.named {us} {vs} s c v) =
      let n = sign_spelled kind.Name ts us s in
      after_name ts vs (Some n.0) (named_yes ts us vs n.0 n.1 c) ∙ bind_stops (value vs) (λ x. pure (roll-Argument (record { name = Some n.0; value = x }))) (refusal rest) (judges.refuses.stops vs rest v)
  argument_stops ts us (ArgumentStops.no_token s f) = no_name ts (refusal us) (named_fault ts us s f)

  -- how far a value goes, behind its name
  value_reaches : (ts us : List Token) (o : Option Name) (v : Term) (rest : List Token) → argument_name ts ≡ Ok (o, us) → Value us v rest
      → (argument value ts ≡ Ok (roll-Argument (record { name = o; value = v }), rest)) ⊎ Further (argument value) Anything ts rest
  value_reaches ts us o v rest e h = elim (judges.reaches us v rest h) [
    | inl ok ↦ inl (after_name ts us o e ∙ bind_goes (value us) (λ x. pure (roll-Argument (record { name = o; value = x }))) v rest ok)
    | inr f ↦ inr (record {
      left = tt;
      shorter = λ a zs k.
          let step = bind_ok (value us) (λ x. pure (roll-Argument (record { name = o; value = x }))) a zs (sym (after_name ts us o e) ∙ k) in
          let same : step.1 ≡ zs = ok_rest (roll-Argument (record { name = o; value = step.0 })) a step.1 zs step.3 in
          subst (λ ws. length ws < length rest) same (f.shorter step.0 step.1 step.2);
    })
  ]

  pub argument_reaches : Reaches (argument value) Anything (IsArgument Value)
  argument_reaches ts a rest (IsArgument.named {us} {vs} {n} {v} s c h) = value_reaches ts vs (Some n) v rest (named_yes ts us vs n s c) h
  argument_reaches ts a rest (IsArgument.plain {v} h) = by_name (begins ts)
    where
      by_name : Begins ts → (argument value ts ≡ Ok (roll-Argument (record { name = None; value = v }), rest)) ⊎ Further (argument value) Anything ts rest
      by_name (Begins.named us vs n s c b) =
          let same : rest ≡ us = judges.named ts us n v rest h s (kind_other kind.Colon kind.OpenParen us colon_no_paren (sign_kind kind.Colon us vs c)) in
          inr (record {
            left = tt;
            shorter = λ x zs k.
                let step = bind_ok (value vs) (λ y. pure (roll-Argument (record { name = Some n; value = y }))) x zs (sym (after_name ts vs (Some n) b) ∙ k) in
                let left : step.1 ≡ zs = ok_rest (roll-Argument (record { name = Some n; value = step.0 })) x step.1 zs step.3 in
                let shrinks : length step.1 < length vs = is.shrinks vs step.0 step.1 (is.read vs step.0 step.1 step.2) in
                let below : length step.1 < length us = omega (arith, shrinks, sign_shrinks kind.Colon us vs c) in
                subst (λ ws. length zs < length ws) (sym same) (subst (λ ws. length ws < length us) left below);
          })
      by_name (Begins.no_token us n s f b) = inr (record { left = tt; shorter = λ x zs k. absurd (ok_not_err (argument value ts) x zs (refusal us) k (no_name ts (refusal us) b)) })
      by_name (Begins.plain p b) = value_reaches ts ts None v rest b h

  argument_none : argument value [] ≡ refused []
  unfolding argument argument_name sees same_kind kind_of
  argument_none = bind_stops (value []) (λ v. pure (roll-Argument (record { name = None; value = v }))) (refusal []) judges.none

  pub argument_refuses : Refuses (argument value) (ArgumentStops ValueStops)
  argument_refuses = record { found = argument_found; stops = argument_stops }

  -- ---- lists

  pub arguments_refuse : Refuses (arguments value) (SeparatedStops (IsArgument Value) (ArgumentStops ValueStops) kind.CloseParen)
  unfolding arguments
  arguments_refuse = record {
    found = λ ts e h. separated_found (IsArgument Value) (ArgumentStops ValueStops) Anything (argument value) kind.CloseParen close_paren_inside (argument_ok value Value is) argument_refuses argument_reaches
        (argument_is value Value is) (λ us vs s. stops kind.Comma us vs stop_comma s) (argument_begins value Value is) (argument_shrinks value Value is) argument_none (length ts) [] ts e (omega arith) h;
    stops = λ ts us d. separated_stops (IsArgument Value) (ArgumentStops ValueStops) Anything (argument value) kind.CloseParen close_paren_inside (argument_ok value Value is) argument_refuses argument_reaches
        (argument_is value Value is) (λ vs ws s. stops kind.Comma vs ws stop_comma s) (argument_begins value Value is) (argument_shrinks value Value is) argument_none (length ts) [] ts us (omega arith) d;
  }

  pub items_refuse : Refuses (items value) (SeparatedStops Value ValueStops kind.CloseBracket)
  unfolding items
  items_refuse = record {
    found = λ ts e h. separated_found Value ValueStops Anything value kind.CloseBracket close_bracket_inside is.read judges.refuses judges.reaches
        is.found (λ us vs s. stops kind.Comma us vs stop_comma s) is.no_bracket is.shrinks judges.none (length ts) [] ts e (omega arith) h;
    stops = λ ts us d. separated_stops Value ValueStops Anything value kind.CloseBracket close_bracket_inside is.read judges.refuses judges.reaches
        is.found (λ vs ws s. stops kind.Comma vs ws stop_comma s) is.no_bracket is.shrinks judges.none (length ts) [] ts us (omega arith) d;
  }
