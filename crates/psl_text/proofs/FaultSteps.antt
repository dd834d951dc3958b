-- The steps of the parser that are refused, against the tokens at which they are.
use Rattle.std.proofs.Common.{◌≡◌, ◌≢◌, ◌<◌, Bool, true, false, cond, List, length, Ok, Err, ◌⊎◌, inl, inr, refl, sym, ap, ◌∙◌, arith}
use denote.Enum.Bare.{same_false}
use Rattle.psl_text.specs.contracts.token.Kind.{the_type}
use Rattle.psl_text.specs.declared.fault.TextFault.{TextFault}
use Rattle.psl_text.specs.declared.token.Kind.{Kind}
use Rattle.psl_text.specs.declared.token.Token.{Token}
use Rattle.psl_text.specs.declared.tree.Name.{Name}
use Rattle.psl_text.specs.Parser.{Outcome, Parser, and_then, kind_of, place_of, text_of, rest_of, sees, same_kind, eat, expect, spelled, refusal}
use Rattle.psl_text.specs.Derives.{Sign, Spelled}
use Rattle.psl_text.specs.Stops.{Misses, Whole}
use Rattle.psl_text.proofs.Steps.{ok_rest, IsInside, kinds_same, sees_sign, sign_sees}

-- what a parser gives when it refuses the next of these tokens
abbrev pub refused : {A : Type 0} → List Token → Outcome A
refused us = Err (refusal us)

pub faults_same : {A : Type 0} (o : Outcome A) (e f : TextFault) → o ≡ Err e → o ≡ Err f → e ≡ f
faults_same o e f a b = cc

-- what goes well is not refused
pub ok_not_err : {A : Type 0} (o : Outcome A) (x : A) (us : List Token) (e : TextFault) → o ≡ Ok (x, us) → o ≡ Err e → ⊥
ok_not_err o x us e a b = cc

-- a step that is refused, or the one behind it
pub bind_err : {A B : Type 0} (o : Outcome A) (f : A → Parser B) (e : TextFault) → and_then o f ≡ Err e → (o ≡ Err e) ⊎ ((x : A) × (us : List Token) × (o ≡ Ok (x, us)) × (f x us ≡ Err e))
bind_err (Ok p) f e h = inr (p.0, p.1, refl, h)
bind_err (Err g) f e h = let same : g ≡ e = cc in inl (ap (λ z. Err z) same)

pub bind_stops : {A B : Type 0} (o : Outcome A) (f : A → Parser B) (e : TextFault) → o ≡ Err e → and_then o f ≡ Err e
bind_stops o f e h = ap (λ z. and_then z f) h

pub bind_goes : {A B : Type 0} (o : Outcome A) (f : A → Parser B) (x : A) (us : List Token) → o ≡ Ok (x, us) → and_then o f ≡ f x us
bind_goes o f x us h = ap (λ z. and_then z f) h

-- ---- a token that comes next or not

pub sees_misses : (k : Kind) (ts : List Token) → sees k ts ≡ false → kind_of ts ≢ k
unfolding sees same_kind
sees_misses k ts e = same_false the_type (kind_of ts) k e

pub misses_sees : (k : Kind) (ts : List Token) → kind_of ts ≢ k → sees k ts ≡ false
unfolding sees
misses_sees k ts differs = by_test (same_kind (kind_of ts) k) refl
  where
    by_test : (b : Bool) → same_kind (kind_of ts) k ≡ b → b ≡ false
    by_test true e = absurd (differs (kinds_same (kind_of ts) k e))
    by_test false e = refl

-- the kind of the next token is another one
pub kind_other : (k l : Kind) (ts : List Token) → same_kind k l ≡ false → kind_of ts ≡ k → sees l ts ≡ false
unfolding sees
kind_other k l ts other e = ap (λ m. same_kind m l) e ∙ other

pub sign_spelled : (k : Kind) (ts us : List Token) → Sign k ts us → (n : Name) × Spelled k ts n us
sign_spelled k ts us (Sign.sign {t} e) = (record { text = t.text; at = t.at }, Spelled.spelled e)

-- one token leaves one rest
pub rests_same : (k l : Kind) (ts us vs : List Token) → same_kind k k ≡ true → same_kind l l ≡ true → Sign k ts us → Sign l ts vs → us ≡ vs
rests_same k l ts us vs a b s t = sym (sign_sees k ts us a s).1 ∙ (sign_sees l ts vs b t).1

when_split_by : {B : Type 0} (b : Bool) (k : Kind) (ts : List Token) (p q : Parser B) (z : Outcome B) → IsInside k → sees k ts ≡ b
    → and_then (cond b (Ok (true, rest_of ts)) (Ok (false, ts))) (λ found. cond found p q) ≡ z
    → ((us : List Token) × Sign k ts us × (p us ≡ z)) ⊎ ((sees k ts ≡ false) × (q ts ≡ z))
when_split_by true k ts p q z inside e h = inl (rest_of ts, sees_sign k ts inside e, h)
when_split_by false k ts p q z inside e h = inr (e, h)

pub when_split : {B : Type 0} (k : Kind) (ts : List Token) (p q : Parser B) (z : Outcome B) → IsInside k → and_then (eat k ts) (λ found. cond found p q) ≡ z
    → ((us : List Token) × Sign k ts us × (p us ≡ z)) ⊎ ((sees k ts ≡ false) × (q ts ≡ z))
when_split k ts p q z inside h = when_split_by (sees k ts) k ts p q z inside refl h

-- the next token is of this kind or not
pub next_is : (k : Kind) (ts : List Token) → IsInside k → ((us : List Token) × Sign k ts us) ⊎ (sees k ts ≡ false)
next_is k ts inside = by_test (sees k ts) refl
  where
    by_test : (b : Bool) → sees k ts ≡ b → ((us : List Token) × Sign k ts us) ⊎ (sees k ts ≡ false)
    by_test true e = inl (rest_of ts, sees_sign k ts inside e)
    by_test false e = inr e

-- ---- a token that has to come next

guard_err : {B : Type 0} (b : Bool) (x : B) (f e : TextFault) → cond b (Ok x) (Err f) ≡ Err e → (b ≡ false) × (e ≡ f)
guard_err true x f e h = absurd (cc)
guard_err false x f e h = let same : e ≡ f = cc in (refl, same)

pub expect_err : (k : Kind) (ts : List Token) (e : TextFault) → expect k ts ≡ Err e → (us : List Token) × Misses k ts us × (e ≡ refusal us)
unfolding expect
expect_err k ts e h = let parts = guard_err (sees k ts) (tt, rest_of ts) (refusal ts) e h in (ts, Misses.misses (sees_misses k ts parts.0), parts.1)

pub expect_misses : (k : Kind) (ts us : List Token) → Misses k ts us → expect k ts ≡ Err (refusal us)
unfolding expect
expect_misses k ts us (Misses.misses differs) = ap (λ b. cond b (Ok (tt, rest_of ts)) (Err (refusal ts))) (misses_sees k ts differs)

pub spelled_err : (k : Kind) (ts : List Token) (e : TextFault) → spelled k ts ≡ Err e → (us : List Token) × Misses k ts us × (e ≡ refusal us)
unfolding spelled
spelled_err k ts e h =
    let parts = guard_err (sees k ts) (record { text = text_of ts; at = place_of ts }, rest_of ts) (refusal ts) e h in
    (ts, Misses.misses (sees_misses k ts parts.0), parts.1)

pub spelled_misses : (k : Kind) (ts us : List Token) → Misses k ts us → spelled k ts ≡ Err (refusal us)
unfolding spelled
spelled_misses k ts us (Misses.misses differs) = ap (λ b. cond b (Ok (record { text = text_of ts; at = place_of ts }, rest_of ts)) (Err (refusal ts))) (misses_sees k ts differs)

-- a token of this kind is not missed
pub sign_not_missed : (k : Kind) (ts us vs : List Token) → Sign k ts us → Misses k ts vs → ⊥
unfolding kind_of
sign_not_missed k ts us vs (Sign.sign e) (Misses.misses differs) = differs e

-- ---- what holds of a parser and of the rule where it stops

pub record Refuses {A : Type 0} (p : Parser A) (Stops : List Token → List Token → Type 0) : Type 0 where
  pub found : (ts : List Token) (e : TextFault) → p ts ≡ Err e → (us : List Token) × Stops ts us × (e ≡ refusal us)
  pub stops : (ts us : List Token) → Stops ts us → p ts ≡ Err (refusal us)

-- what is read goes further, if any is; and what holds of the tokens that this leaves
pub record Further {A : Type 0} (p : Parser A) (Left : List Token → Type 0) (ts vs : List Token) : Type 0 where
  pub left : Left vs
  pub shorter : (x : A) (us : List Token) → p ts ≡ Ok (x, us) → length us < length vs

-- what is derived is read, or goes less far
abbrev pub Reaches : {A : Type 0} → Parser A → (List Token → Type 0) → (List Token → A → List Token → Type 0) → Type 0
Reaches {A} p Left Item = (ts : List Token) (y : A) (vs : List Token) → Item ts y vs → (p ts ≡ Ok (y, vs)) ⊎ Further p Left ts vs

abbrev pub Anything : List Token → Type 0
Anything ts = Unit {0}

module _ {A : Type 0} (Item : List Token → A → List Token → Type 0) (ItemStops : List Token → List Token → Type 0) (Left : List Token → Type 0) (item : Parser A)
    (item_ok : (ts : List Token) (x : A) (us : List Token) → item ts ≡ Ok (x, us) → Item ts x us) (refuses : Refuses item ItemStops) (reaches : Reaches item Left Item) where
  pub whole_read : (ts : List Token) (x : A) (us : List Token) → item ts ≡ Ok (x, us) → Whole Item ItemStops ts x us
  whole_read ts x us h = record {
    is = item_ok ts x us h;
    longest = λ y vs i. elim (reaches ts y vs i) [
      | inl e ↦ let same : us ≡ vs = ok_rest x y us vs (sym h ∙ e) in let l : length us ≡ length vs = ap (λ zs. length zs) same in omega (arith, l)
      | inr f ↦ omega (arith, f.shorter x us h)
    ];
    goes = λ vs s. ok_not_err (item ts) x us (refusal vs) h (refuses.stops ts vs s);
  }

  whole_by : (ts : List Token) (x : A) (us : List Token) → Whole Item ItemStops ts x us → Further item Left ts us → (o : Outcome A) → item ts ≡ o → item ts ≡ Ok (x, us)
  whole_by ts x us w f (Ok p) h = absurd (omega (arith, f.shorter p.0 p.1 h, w.longest p.0 p.1 (item_ok ts p.0 p.1 h)))
  whole_by ts x us w f (Err e) h = let s = refuses.found ts e h in absurd (w.goes s.0 s.1)

  pub whole_is : (ts : List Token) (x : A) (us : List Token) → Whole Item ItemStops ts x us → item ts ≡ Ok (x, us)
  whole_is ts x us w = elim (reaches ts x us w.is) [
    | inl e ↦ e
    | inr f ↦ whole_by ts x us w f (item ts) refl
  ]
