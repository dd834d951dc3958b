-- Tokens that begin alike: what is read of the ones is read of the others, and what is refused of the ones is refused of
-- the others.
use Rattle.std.proofs.Common.{◌≡◌, Bool, true, false, cond, List, [], ◌∷◌, ◌++◌, Ok, Err, inl, inr, refl, sym, ap, subst, ◌∙◌, append_assoc}
use Rattle.psl_text.specs.declared.fault.TextFault.{TextFault}
use Rattle.psl_text.specs.declared.token.Kind.{Kind}
use Rattle.psl_text.specs.declared.token.Token.{Token}
use Rattle.psl_text.specs.declared.tree.Name.{Name}
use Rattle.psl_text.specs.Parser.{Parser, ◌>>=◌, pure, kind_of, docs_of, sees, same_kind, eat, expect, spelled, refusal}
use Rattle.psl_text.specs.Derives.{Sign, Spelled}
use Rattle.psl_text.specs.Stops.{Misses}
use Rattle.psl_text.proofs.Steps.{bind_ok, ok_value, ok_rest, IsInside, when_ok, when_yes, when_no, expect_ok, expect_sign, spelled_ok, spelled_is}
use Rattle.psl_text.proofs.FaultSteps.{bind_stops, bind_goes, expect_misses, spelled_misses}

-- the next token is the same
pub data Alike : List Token → List Token → Type 0 where
  alike : {t : Token} {us vs : List Token} → Alike (t ∷ us) (t ∷ vs)

pub alike_behind : (front us vs : List Token) → Alike us vs → Alike (front ++ us) (front ++ vs)
alike_behind [] us vs a = a
alike_behind (t ∷ front) us vs a = Alike.alike

pub alike_kind : (us vs : List Token) → Alike us vs → kind_of us ≡ kind_of vs
unfolding kind_of
alike_kind us vs Alike.alike = refl

pub alike_docs : (us vs : List Token) → Alike us vs → docs_of us ≡ docs_of vs
unfolding docs_of
alike_docs us vs Alike.alike = refl

pub alike_sign : (k : Kind) (us vs ws : List Token) → Alike us vs → Sign k us ws → (zs : List Token) × Sign k vs zs
alike_sign k us vs ws (Alike.alike {vs = zs}) (Sign.sign e) = (zs, Sign.sign e)

pub alike_back : (us vs : List Token) → Alike us vs → Alike vs us
alike_back us vs Alike.alike = Alike.alike

pub kind_again : (ts front us vs : List Token) → ts ≡ front ++ us → Alike us vs → kind_of (front ++ vs) ≡ kind_of ts
kind_again ts front us vs split a = sym (ap kind_of split ∙ alike_kind (front ++ us) (front ++ vs) (alike_behind front us vs a))

pub docs_again : (ts front us vs : List Token) → ts ≡ front ++ us → Alike us vs → docs_of (front ++ vs) ≡ docs_of ts
docs_again ts front us vs split a = sym (ap docs_of split ∙ alike_docs (front ++ us) (front ++ vs) (alike_behind front us vs a))

-- the kind of the next token, whatever follows
pub seen_again : (k : Kind) (b : Bool) (ts front us vs : List Token) → ts ≡ front ++ us → Alike us vs → sees k ts ≡ b → sees k (front ++ vs) ≡ b
unfolding sees
seen_again k b ts front us vs split a seen =
    ap (λ l. same_kind l k) (sym (ap kind_of split ∙ alike_kind (front ++ us) (front ++ vs) (alike_behind front us vs a))) ∙ seen

-- ---- what is taken, and what is lost

-- a reading that leaves some tokens leaves others that begin alike
pub record Taken {A : Type 0} (p : Parser A) (ts : List Token) (x : A) (us : List Token) : Type 0 where
  pub front : List Token
  pub split : ts ≡ front ++ us
  pub again : (vs : List Token) → Alike us vs → p (front ++ vs) ≡ Ok (x, vs)

-- a refusal of some tokens is one of others that begin alike
pub record Lost {A : Type 0} (p : Parser A) (ts us : List Token) : Type 0 where
  pub front : List Token
  pub split : ts ≡ front ++ us
  pub again : (vs : List Token) → Alike us vs → (e : TextFault) × (p (front ++ vs) ≡ Err e)

abbrev pub Keeps : {A : Type 0} → Parser A → Type 0
Keeps {A} p = (ts : List Token) (x : A) (us : List Token) → p ts ≡ Ok (x, us) → Taken p ts x us

abbrev pub Loses : {A : Type 0} → Parser A → (List Token → List Token → Type 0) → Type 0
Loses p Stops = (ts us : List Token) → Stops ts us → Lost p ts us

-- the tokens of two readings
pub both : (ts front mid back us : List Token) → ts ≡ front ++ mid → mid ≡ back ++ us → ts ≡ (front ++ back) ++ us
both ts front mid back us first second = first ∙ ap (λ zs. front ++ zs) second ∙ sym (append_assoc front back us)

pub between : (mid back us vs : List Token) → mid ≡ back ++ us → Alike us vs → Alike mid (back ++ vs)
between mid back us vs split a = subst (λ zs. Alike zs (back ++ vs)) (sym split) (alike_behind back us vs a)

pub keeps_pure : {A : Type 0} (x : A) → Keeps (pure x)
keeps_pure x ts y us e = record { front = []; split = ok_rest x y ts us e; again = λ vs a. ap (λ z. Ok (z, vs)) (ok_value x y ts us e) }

pub taken_bind : {A B : Type 0} (p : Parser A) (f : A → Parser B) (ts : List Token) (x : A) (mid : List Token) (y : B) (us : List Token) → Taken p ts x mid → Taken (f x) mid y us → Taken (p >>= f) ts y us
taken_bind p f ts x mid y us t l = record {
  front = t.front ++ l.front;
  split = both ts t.front mid l.front us t.split l.split;
  again = λ vs a. ap (λ zs. (p >>= f) zs) (append_assoc t.front l.front vs) ∙ bind_goes (p (t.front ++ (l.front ++ vs))) f x (l.front ++ vs) (t.again (l.front ++ vs) (between mid l.front us vs l.split a)) ∙ l.again vs a;
}

pub keeps_bind : {A B : Type 0} (p : Parser A) (f : A → Parser B) → Keeps p → ((x : A) → Keeps (f x)) → Keeps (p >>= f)
keeps_bind p f first then ts y us e =
    let step = bind_ok (p ts) f y us e in
    taken_bind p f ts step.0 step.1 y us (first ts step.0 step.1 step.2) (then step.0 step.1 y us step.3)

pub lost_here : {A B : Type 0} (p : Parser A) (f : A → Parser B) (ts us : List Token) → Lost p ts us → Lost (p >>= f) ts us
lost_here p f ts us l = record { front = l.front; split = l.split; again = λ vs a. let h = l.again vs a in (h.0, bind_stops (p (l.front ++ vs)) f h.0 h.1) }

pub lost_later : {A B : Type 0} (p : Parser A) (f : A → Parser B) (ts : List Token) (x : A) (mid us : List Token) → Taken p ts x mid → Lost (f x) mid us → Lost (p >>= f) ts us
lost_later p f ts x mid us t l = record {
  front = t.front ++ l.front;
  split = both ts t.front mid l.front us t.split l.split;
  again = λ vs a.
      let h = l.again vs a in
      (h.0, ap (λ zs. (p >>= f) zs) (append_assoc t.front l.front vs) ∙ bind_goes (p (t.front ++ (l.front ++ vs))) f x (l.front ++ vs) (t.again (l.front ++ vs) (between mid l.front us vs l.split a)) ∙ h.1);
}

-- ---- one token

module _ (k : Kind) (inside : IsInside k) (self : same_kind k k ≡ true) where
  pub taken_spelled : (ts : List Token) (n : Name) (us : List Token) → Spelled k ts n us → Taken (spelled k) ts n us
  taken_spelled ts n us (Spelled.spelled {t} e) = record { front = t ∷ []; split = refl; again = λ vs a. spelled_is k (t ∷ vs) vs n self (Spelled.spelled e) }

  pub keeps_spelled : Keeps (spelled k)
  keeps_spelled ts n us e = taken_spelled ts n us (spelled_ok k ts us n inside e)

  pub taken_expect : (ts us : List Token) → Sign k ts us → Taken (expect k) ts tt us
  taken_expect ts us (Sign.sign {t} e) = record { front = t ∷ []; split = refl; again = λ vs a. expect_sign k (t ∷ vs) vs self (Sign.sign e) }

  pub keeps_expect : Keeps (expect k)
  keeps_expect ts u us e = taken_expect ts us (expect_ok k ts us u inside e)

  taken_yes : {B : Type 0} (p q : Parser B) (ts mid : List Token) (y : B) (us : List Token) → Sign k ts mid → Taken p mid y us → Taken (eat k >>= λ found. cond found p q) ts y us
  taken_yes p q ts mid y us (Sign.sign {t} e) l = record {
    front = t ∷ l.front;
    split = ap (λ zs. t ∷ zs) l.split;
    again = λ vs a. when_yes k (t ∷ (l.front ++ vs)) (l.front ++ vs) p q self (Sign.sign e) ∙ l.again vs a;
  }

  taken_no : {B : Type 0} (p q : Parser B) (ts : List Token) (y : B) (us : List Token) → sees k ts ≡ false → Taken q ts y us → Taken (eat k >>= λ found. cond found p q) ts y us
  taken_no p q ts y us seen l = record {
    front = l.front;
    split = l.split;
    again = λ vs a. when_no k (l.front ++ vs) p q (seen_again k false ts l.front us vs l.split a seen) ∙ l.again vs a;
  }

  pub keeps_when : {B : Type 0} (p q : Parser B) → Keeps p → Keeps q → Keeps (eat k >>= λ found. cond found p q)
  keeps_when p q keeps others ts y us e = elim (when_ok k ts p q y us inside e) [
    | inl goes ↦ taken_yes p q ts goes.0 y us goes.1 (keeps goes.0 y us goes.2)
    | inr other ↦ taken_no p q ts y us other.0 (others ts y us other.1)
  ]

  pub lost_yes : {B : Type 0} (p q : Parser B) (ts mid us : List Token) → Sign k ts mid → Lost p mid us → Lost (eat k >>= λ found. cond found p q) ts us
  lost_yes p q ts mid us (Sign.sign {t} e) l = record {
    front = t ∷ l.front;
    split = ap (λ zs. t ∷ zs) l.split;
    again = λ vs a. let h = l.again vs a in (h.0, when_yes k (t ∷ (l.front ++ vs)) (l.front ++ vs) p q self (Sign.sign e) ∙ h.1);
  }

  pub lost_no : {B : Type 0} (p q : Parser B) (ts us : List Token) → sees k ts ≡ false → Lost q ts us → Lost (eat k >>= λ found. cond found p q) ts us
  lost_no p q ts us seen l = record {
    front = l.front;
    split = l.split;
    again = λ vs a. let h = l.again vs a in (h.0, when_no k (l.front ++ vs) p q (seen_again k false ts l.front us vs l.split a seen) ∙ h.1);
  }

pub lost_spelled : (k : Kind) (ts us : List Token) → Misses k ts us → Lost (spelled k) ts us
lost_spelled k ts us (Misses.misses differs) = record {
  front = [];
  split = refl;
  again = λ vs a. (refusal vs, spelled_misses k vs vs (Misses.misses (λ e. differs (alike_kind ts vs a ∙ e))));
}

pub lost_expect : (k : Kind) (ts us : List Token) → Misses k ts us → Lost (expect k) ts us
lost_expect k ts us (Misses.misses differs) = record {
  front = [];
  split = refl;
  again = λ vs a. (refusal vs, expect_misses k vs vs (Misses.misses (λ e. differs (alike_kind ts vs a ∙ e))));
}
