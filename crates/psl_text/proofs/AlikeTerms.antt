-- Items, arguments and terms of tokens that begin alike.
use Rattle.std.proofs.Common.{◌≡◌, ◌≢◌, ℕ, zero, suc, ◌<◌, true, false, cond, List, [], ◌∷◌, ◌++◌, length, Option, Some, None, Ok, Err, refl, sym, ap, subst, ◌∙◌, arith, append_assoc}
use Rattle.psl_text.specs.declared.fault.TextFault.{TextFault}
use Rattle.psl_text.specs.declared.token.Kind.{Kind}
use Rattle.psl_text.specs.declared.token.Kind.TheVariants as kind
use Rattle.psl_text.specs.declared.token.Token.{Token}
use Rattle.psl_text.specs.declared.tree.Name.{Name}
use Rattle.psl_text.specs.declared.tree.Argument.{Argument, roll-Argument}
use Rattle.psl_text.specs.declared.tree.Term.{Term}
use Rattle.psl_text.specs.Scan.{is_fault}
use Rattle.psl_text.specs.Parser.{Parser, ◌>>=◌, ◌>>◌, pure, kind_of, sees, eat, expect, separated, refusal}
use Rattle.psl_text.specs.Grammar.{argument, arguments, items}
use Rattle.psl_text.specs.Derives.{Sign, Spelled, Separated, IsArgument}
use Rattle.psl_text.specs.Stops.{Misses, Whole, SeparatedStops, ArgumentStops}
use Rattle.psl_text.proofs.Steps.{bind_ok, ok_rest, when_yes, when_no, spelled_sees}
use Rattle.psl_text.proofs.Separate.{Stops, comma_self}
use Rattle.psl_text.proofs.TermRules.{IsValue, stops, stop_comma, stop_close_paren, stop_close_bracket, named_yes, argument_ok, argument_is, argument_begins, arguments_ok, arguments_is, items_ok, items_is}
use Rattle.psl_text.proofs.FaultSteps.{ok_not_err, bind_stops, bind_goes, misses_sees, expect_misses, Anything, whole_is}
use Rattle.psl_text.proofs.FaultTerms.{Judges, IsPlain, Begins, begins, plain_name, named_fault, after_name, no_name, argument_refuses, argument_reaches}
use Rattle.psl_text.proofs.Alike.{Alike, alike_back, alike_behind, alike_kind, alike_sign, seen_again, Taken, Lost, Keeps, Loses, both, keeps_pure, keeps_bind, lost_here}

-- ---- items

-- a derivation of some tokens is one of others, whatever follows
pub record Moved {A : Type 0} (Item : List Token → A → List Token → Type 0) (ts : List Token) (x : A) (us : List Token) : Type 0 where
  pub front : List Token
  pub split : ts ≡ front ++ us
  pub again : (vs : List Token) → Item (front ++ vs) x vs

-- a refusal at each turn
pub record LostIn {A : Type 0} (p : ℕ → List A → Parser (List A)) (ts us : List Token) : Type 0 where
  pub front : List Token
  pub split : ts ≡ front ++ us
  pub again : (vs : List Token) (n : ℕ) (found : List A) → Alike us vs → (e : TextFault) × (p n found (front ++ vs) ≡ Err e)

pub record IsItem {A : Type 0} (Item : List Token → A → List Token → Type 0) (ItemStops : List Token → List Token → Type 0) (item : Parser A) (close : Kind) : Type 0 where
  pub ok : (ts : List Token) (x : A) (us : List Token) → item ts ≡ Ok (x, us) → Item ts x us
  pub is : (ts : List Token) (x : A) (us : List Token) → Item ts x us → Stops us → item ts ≡ Ok (x, us)
  pub begins : (ts : List Token) (x : A) (us : List Token) → Item ts x us → sees close ts ≡ false
  pub whole : (ts : List Token) (x : A) (us : List Token) → Whole Item ItemStops ts x us → item ts ≡ Ok (x, us)
  pub keeps : Keeps item
  pub loses : Loses item ItemStops

module _ {A : Type 0} (Item : List Token → A → List Token → Type 0) (ItemStops : List Token → List Token → Type 0) (item : Parser A) (close : Kind)
    (closes : (ts us : List Token) → Sign close ts us → Stops ts) (is : IsItem Item ItemStops item close) where
  -- an item of tokens that go on alike
  item_again : (ts : List Token) (x : A) (mid : List Token) (t : Taken item ts x mid) (back vs : List Token) → Alike mid (back ++ vs) → Item ((t.front ++ back) ++ vs) x (back ++ vs)
  item_again ts x mid t back vs a =
      subst (λ zs. Item zs x (back ++ vs)) (sym (append_assoc t.front back vs)) (is.ok (t.front ++ (back ++ vs)) x (back ++ vs) (t.again (back ++ vs) a))

  closed_moves : (ts us : List Token) → Sign close ts us → Moved (Separated Item close) ts [] us
  closed_moves ts us (Sign.sign {t} e) = record { front = t ∷ []; split = refl; again = λ vs. Separated.closed (Sign.sign e) }

  last_moves : (ts : List Token) (x : A) (mid us : List Token) → Taken item ts x mid → Sign close mid us → Moved (Separated Item close) ts (x ∷ []) us
  last_moves ts x mid us t (Sign.sign {t = c} e) = record {
    front = t.front ++ c ∷ [];
    split = both ts t.front (c ∷ us) (c ∷ []) us t.split refl;
    again = λ vs. Separated.last (item_again ts x (c ∷ us) t (c ∷ []) vs Alike.alike) (Sign.sign e);
  }

  more_moves : (ts : List Token) (x : A) (mid next : List Token) (xs : List A) (us : List Token) → Taken item ts x mid → Sign kind.Comma mid next → Moved (Separated Item close) next xs us → Moved (Separated Item close) ts (x ∷ xs) us
  more_moves ts x mid next xs us t (Sign.sign {t = c} e) l = record {
    front = t.front ++ c ∷ l.front;
    split = both ts t.front (c ∷ next) (c ∷ l.front) us t.split (ap (λ zs. c ∷ zs) l.split);
    again = λ vs. Separated.more (item_again ts x (c ∷ next) t (c ∷ l.front) vs Alike.alike) (Sign.sign e) (l.again vs);
  }

  pub separated_moves : (ts : List Token) (xs : List A) (us : List Token) → Separated Item close ts xs us → Moved (Separated Item close) ts xs us
  separated_moves ts xs us (Separated.closed s) = closed_moves ts us s
  separated_moves ts xs us (Separated.last {us = mid} {x} i s) = last_moves ts x mid us (is.keeps ts x mid (is.is ts x mid i (closes mid us s))) s
  separated_moves ts xs us (Separated.more {us = mid} {vs = next} {x} {xs = ys} i s d) =
      more_moves ts x mid next ys us (is.keeps ts x mid (is.is ts x mid i (stops kind.Comma mid next stop_comma s))) s (separated_moves next ys us d)

  -- behind an item
  abbrev then_on : ℕ → List A → A → Parser (List A)
  then_on n found x = eat kind.Comma >>= λ goes_on. cond goes_on (separated item close n (found ++ x ∷ [])) (expect close >> pure (found ++ x ∷ []))

  item_lost : (ts us : List Token) → kind_of ts ≢ close → Lost item ts us → LostIn (separated item close) ts us
  unfolding separated
  item_lost ts us differs l = record {
    front = l.front;
    split = l.split;
    again = λ vs n found a. elim n as (λ j. (e : TextFault) × (separated item close j found (l.front ++ vs) ≡ Err e)) [
      | zero ↦ (refusal (l.front ++ vs), refl)
      | suc k ↦
          let h = l.again vs a in (
            h.0,
            when_no close (l.front ++ vs) (pure found) (item >>= then_on k found) (seen_again close false ts l.front us vs l.split a (misses_sees close ts differs))
                ∙ bind_stops (item (l.front ++ vs)) (then_on k found) h.0 h.1,
          )
    ];
  }

  behind_lost : (ts : List Token) (x : A) (us : List Token) → Item ts x us → Taken item ts x us → kind_of us ≢ kind.Comma → kind_of us ≢ close → LostIn (separated item close) ts us
  unfolding separated
  behind_lost ts x us i t no_comma no_close = record {
    front = t.front;
    split = t.split;
    again = λ vs n found a. elim n as (λ j. (e : TextFault) × (separated item close j found (t.front ++ vs) ≡ Err e)) [
      | zero ↦ (refusal (t.front ++ vs), refl)
      | suc k ↦ (
        refusal vs,
        when_no close (t.front ++ vs) (pure found) (item >>= then_on k found) (seen_again close false ts t.front us vs t.split a (is.begins ts x us i))
            ∙ bind_goes (item (t.front ++ vs)) (then_on k found) x vs (t.again vs a)
            ∙ when_no kind.Comma vs (separated item close k (found ++ x ∷ [])) (expect close >> pure (found ++ x ∷ [])) (misses_sees kind.Comma vs (λ e. no_comma (alike_kind us vs a ∙ e)))
            ∙ bind_stops (expect close vs) (λ _. pure (found ++ x ∷ [])) (refusal vs) (expect_misses close vs vs (Misses.misses (λ e. no_close (alike_kind us vs a ∙ e)))),
      )
    ];
  }

  later_lost : (ts : List Token) (x : A) (mid next us : List Token) → Item ts x mid → Taken item ts x mid → Sign kind.Comma mid next → LostIn (separated item close) next us → LostIn (separated item close) ts us
  unfolding separated
  later_lost ts x mid next us i t (Sign.sign {t = c} e) l = record {
    front = t.front ++ c ∷ l.front;
    split = both ts t.front (c ∷ next) (c ∷ l.front) us t.split (ap (λ zs. c ∷ zs) l.split);
    again = λ vs n found a. elim n as (λ j. (e : TextFault) × (separated item close j found ((t.front ++ c ∷ l.front) ++ vs) ≡ Err e)) [
      | zero ↦ (refusal ((t.front ++ c ∷ l.front) ++ vs), refl)
      | suc k ↦
          let h = l.again vs k (found ++ x ∷ []) a in
          let tail = c ∷ (l.front ++ vs) in (
            h.0,
            ap (λ zs. separated item close (suc k) found zs) (append_assoc t.front (c ∷ l.front) vs)
                ∙ when_no close (t.front ++ tail) (pure found) (item >>= then_on k found) (seen_again close false ts t.front (c ∷ next) tail t.split Alike.alike (is.begins ts x (c ∷ next) i))
                ∙ bind_goes (item (t.front ++ tail)) (then_on k found) x tail (t.again tail Alike.alike)
                ∙ when_yes kind.Comma tail (l.front ++ vs) (separated item close k (found ++ x ∷ [])) (expect close >> pure (found ++ x ∷ [])) comma_self (Sign.sign e)
                ∙ h.1,
          )
    ];
  }

  pub separated_lost : (ts us : List Token) → SeparatedStops Item ItemStops close ts us → LostIn (separated item close) ts us
  separated_lost ts us (SeparatedStops.item differs s) = item_lost ts us differs (is.loses ts us s)
  separated_lost ts us (SeparatedStops.behind {x} w no_comma no_close) = behind_lost ts x us w.is (is.keeps ts x us (is.whole ts x us w)) no_comma no_close
  separated_lost ts us (SeparatedStops.later {us = mid} {vs = next} {x} i s d) =
      later_lost ts x mid next us i (is.keeps ts x mid (is.is ts x mid i (stops kind.Comma mid next stop_comma s))) s (separated_lost next us d)

-- ---- arguments

pub record Local (value : Parser Term) (Value : List Token → Term → List Token → Type 0) (ValueStops : List Token → List Token → Type 0) : Type 0 where
  pub keeps : Keeps value
  pub loses : Loses value ValueStops
  pub deep : (ts us zs : List Token) → ValueStops ts us → ts ≡ us → Sign kind.Name ts zs → (qs : List Token) → (e : TextFault) × (value qs ≡ Err e)

-- whether a name stands alone depends on the token behind it
plain_kept : (t : Token) (front us vs : List Token) → Alike us vs → IsPlain (t ∷ (front ++ us)) → IsPlain (t ∷ (front ++ vs))
plain_kept t front us vs a plain n ws (Spelled.spelled e) =
    let before = plain (record { text = t.text; at = t.at }) (front ++ us) (Spelled.spelled e) in
    let same = alike_kind (front ++ us) (front ++ vs) (alike_behind front us vs a) in
    (λ colon. before.0 (same ∙ colon), ap is_fault (sym same) ∙ before.1)

module _ (value : Parser Term) (Value : List Token → Term → List Token → Type 0) (ValueStops : List Token → List Token → Type 0) (is : IsValue value Value) (judges : Judges value Value ValueStops)
    (local : Local value Value ValueStops) where
  abbrev with_name : Option Name → Parser Argument
  with_name o = value >>= λ v. pure (roll-Argument (record { name = o; value = v }))

  value_taken : (o : Option Name) → Keeps (with_name o)
  value_taken o = keeps_bind value (λ v. pure (roll-Argument (record { name = o; value = v }))) local.keeps (λ v. keeps_pure (roll-Argument (record { name = o; value = v })))

  value_lost : (o : Option Name) → Loses (with_name o) ValueStops
  value_lost o ts us s = lost_here value (λ v. pure (roll-Argument (record { name = o; value = v }))) ts us (local.loses ts us s)

  named_taken : (ts zs vs : List Token) (n : Name) (a : Argument) (us : List Token) → Spelled kind.Name ts n zs → Sign kind.Colon zs vs → Taken (with_name (Some n)) vs a us → Taken (argument value) ts a us
  named_taken ts zs vs n a us (Spelled.spelled {t} e) (Sign.sign {t = c} g) l = record {
    front = t ∷ (c ∷ l.front);
    split = ap (λ qs. t ∷ (c ∷ qs)) l.split;
    again = λ ws al. after_name value Value ValueStops is judges (t ∷ (c ∷ (l.front ++ ws))) (l.front ++ ws) (Some n)
        (named_yes (t ∷ (c ∷ (l.front ++ ws))) (c ∷ (l.front ++ ws)) (l.front ++ ws) n (Spelled.spelled e) (Sign.sign g)) ∙ l.again ws al;
  }

  plain_taken : (ts : List Token) (a : Argument) (us front : List Token) → IsPlain ts → length us < length ts → ts ≡ front ++ us → ((vs : List Token) → Alike us vs → with_name None (front ++ vs) ≡ Ok (a, vs)) → Taken (argument value) ts a us
  plain_taken ts a us [] p some split again = let same = ap (λ zs. length zs) split in absurd (omega (arith, same))
  plain_taken ts a us (t ∷ front) p some split again = record {
    front = t ∷ front;
    split = split;
    again = λ vs al. after_name value Value ValueStops is judges (t ∷ (front ++ vs)) (t ∷ (front ++ vs)) None
        (plain_name (t ∷ (front ++ vs)) (plain_kept t front us vs al (subst IsPlain split p)) (begins (t ∷ (front ++ vs)))) ∙ again vs al;
  }

  argument_keeps : Keeps (argument value)
  argument_keeps ts a us e = by_name (begins ts)
    where
      by_name : Begins ts → Taken (argument value) ts a us
      by_name (Begins.named zs vs n s c b) = named_taken ts zs vs n a us s c (value_taken (Some n) vs a us (sym (after_name value Value ValueStops is judges ts vs (Some n) b) ∙ e))
      by_name (Begins.no_token zs n s f b) = absurd (ok_not_err (argument value ts) a us (refusal zs) e (no_name value Value ValueStops is judges ts (refusal zs) b))
      by_name (Begins.plain p b) =
          let read = sym (after_name value Value ValueStops is judges ts ts None b) ∙ e in
          let step = bind_ok (value ts) (λ v. pure (roll-Argument (record { name = None; value = v }))) a us read in
          let same : step.1 ≡ us = ok_rest (roll-Argument (record { name = None; value = step.0 })) a step.1 us step.3 in
          let shorter : length us < length ts = subst (λ zs. length zs < length ts) same (is.shrinks ts step.0 step.1 (is.read ts step.0 step.1 step.2)) in
          let l = value_taken None ts a us read in
          plain_taken ts a us l.front p shorter l.split l.again

  -- at the value itself
  first_lost : (ts us : List Token) → IsPlain ts → ValueStops ts us → ts ≡ us → ((vs : List Token) → Alike us vs → (e : TextFault) × (with_name None vs ≡ Err e)) → (vs : List Token) → Alike us vs → (e : TextFault) × (argument value vs ≡ Err e)
  first_lost ts us p s same again vs al = by_name (begins vs)
    where
      by_name : Begins vs → (e : TextFault) × (argument value vs ≡ Err e)
      by_name (Begins.named zs ws n sp c b) =
          let there = alike_sign kind.Name vs us zs (alike_back us vs al) (spelled_sees kind.Name vs n zs sp) in
          let h = local.deep ts us there.0 s same (subst (λ qs. Sign kind.Name qs there.0) (sym same) there.1) ws in
          (h.0, after_name value Value ValueStops is judges vs ws (Some n) b ∙ bind_stops (value ws) (λ v. pure (roll-Argument (record { name = Some n; value = v }))) h.0 h.1)
      by_name (Begins.no_token zs n sp f b) = (refusal zs, no_name value Value ValueStops is judges vs (refusal zs) b)
      by_name (Begins.plain q b) = let h = again vs al in (h.0, after_name value Value ValueStops is judges vs vs None b ∙ h.1)

  plain_lost : (ts us front : List Token) → IsPlain ts → ValueStops ts us → ts ≡ front ++ us → ((vs : List Token) → Alike us vs → (e : TextFault) × (with_name None (front ++ vs) ≡ Err e)) → Lost (argument value) ts us
  plain_lost ts us [] p s split again = record { front = []; split = split; again = first_lost ts us p s split again }
  plain_lost ts us (t ∷ front) p s split again = record {
    front = t ∷ front;
    split = split;
    again = λ vs al.
        let h = again vs al in (
          h.0,
          after_name value Value ValueStops is judges (t ∷ (front ++ vs)) (t ∷ (front ++ vs)) None
              (plain_name (t ∷ (front ++ vs)) (plain_kept t front us vs al (subst IsPlain split p)) (begins (t ∷ (front ++ vs)))) ∙ h.1,
        );
  }

  named_lost : (ts zs vs us : List Token) → Sign kind.Name ts zs → Sign kind.Colon zs vs → ValueStops vs us → Lost (argument value) ts us
  named_lost ts zs vs us (Sign.sign {t} e) (Sign.sign {t = c} g) s =
      let l = value_lost (Some (record { text = t.text; at = t.at })) vs us s in
      record {
        front = t ∷ (c ∷ l.front);
        split = ap (λ qs. t ∷ (c ∷ qs)) l.split;
        again = λ ws al.
            let h = l.again ws al in (
              h.0,
              after_name value Value ValueStops is judges (t ∷ (c ∷ (l.front ++ ws))) (l.front ++ ws) (Some (record { text = t.text; at = t.at }))
                  (named_yes (t ∷ (c ∷ (l.front ++ ws))) (c ∷ (l.front ++ ws)) (l.front ++ ws) (record { text = t.text; at = t.at }) (Spelled.spelled e) (Sign.sign g)) ∙ h.1,
            );
      }

  no_token_lost : (ts us : List Token) → Sign kind.Name ts us → is_fault (kind_of us) ≡ true → Lost (argument value) ts us
  no_token_lost ts us (Sign.sign {t} e) f = record {
    front = t ∷ [];
    split = refl;
    again = λ vs al. (refusal vs, no_name value Value ValueStops is judges (t ∷ vs) (refusal vs) (named_fault (t ∷ vs) vs (Sign.sign e) (ap is_fault (sym (alike_kind us vs al)) ∙ f)));
  }

  argument_loses : Loses (argument value) (ArgumentStops ValueStops)
  argument_loses ts us (ArgumentStops.plain p s) = let l = value_lost None ts us s in plain_lost ts us l.front p s l.split l.again
  argument_loses ts us (ArgumentStops.named {us = zs} {vs} s c v) = named_lost ts zs vs us s c v
  argument_loses ts us (ArgumentStops.no_token s f) = no_token_lost ts us s f

  argument_item : IsItem (IsArgument Value) (ArgumentStops ValueStops) (argument value) kind.CloseParen
  argument_item = record {
    ok = argument_ok value Value is;
    is = argument_is value Value is;
    begins = argument_begins value Value is;
    whole = whole_is (IsArgument Value) (ArgumentStops ValueStops) Anything (argument value) (argument_ok value Value is) (argument_refuses value Value ValueStops is judges) (argument_reaches value Value ValueStops is judges);
    keeps = argument_keeps;
    loses = argument_loses;
  }

  value_item : IsItem Value ValueStops value kind.CloseBracket
  value_item = record {
    ok = is.read;
    is = is.found;
    begins = is.no_bracket;
    whole = whole_is Value ValueStops Anything value is.read judges.refuses judges.reaches;
    keeps = local.keeps;
    loses = local.loses;
  }

  pub arguments_keep : Keeps (arguments value)
  arguments_keep ts xs us e =
      let m = separated_moves (IsArgument Value) (ArgumentStops ValueStops) (argument value) kind.CloseParen (λ zs ws s. stops kind.CloseParen zs ws stop_close_paren s) argument_item ts xs us (arguments_ok value Value is ts xs us e) in
      record { front = m.front; split = m.split; again = λ vs a. arguments_is value Value is (m.front ++ vs) xs vs (m.again vs) }

  pub arguments_lose : Loses (arguments value) (SeparatedStops (IsArgument Value) (ArgumentStops ValueStops) kind.CloseParen)
  unfolding arguments
  arguments_lose ts us d =
      let l = separated_lost (IsArgument Value) (ArgumentStops ValueStops) (argument value) kind.CloseParen (λ zs ws s. stops kind.CloseParen zs ws stop_close_paren s) argument_item ts us d in
      record { front = l.front; split = l.split; again = λ vs a. l.again vs (length (l.front ++ vs)) [] a }

  pub items_keep : Keeps (items value)
  items_keep ts xs us e =
      let m = separated_moves Value ValueStops value kind.CloseBracket (λ zs ws s. stops kind.CloseBracket zs ws stop_close_bracket s) value_item ts xs us (items_ok value Value is ts xs us e) in
      record { front = m.front; split = m.split; again = λ vs a. items_is value Value is (m.front ++ vs) xs vs (m.again vs) }

  pub items_lose : Loses (items value) (SeparatedStops Value ValueStops kind.CloseBracket)
  unfolding items
  items_lose ts us d =
      let l = separated_lost Value ValueStops value kind.CloseBracket (λ zs ws s. stops kind.CloseBracket zs ws stop_close_bracket s) value_item ts us d in
      record { front = l.front; split = l.split; again = λ vs a. l.again vs (length (l.front ++ vs)) [] a }
