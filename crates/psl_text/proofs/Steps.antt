-- The steps of the parser against the tokens that they take.
use Rattle.std.proofs.Common.{◌≡◌, ◌<◌, Bool, true, false, cond, List, [], ◌∷◌, length, Result, Ok, Err, ◌⊎◌, inl, inr, refl, ap, subst, ◌∙◌, arith, rules}
use denote.Enum.Bare.{same_true}
use Rattle.psl_text.specs.contracts.token.Kind.{the_type}
use Rattle.psl_text.specs.declared.fault.TextFault.{TextFault}
use Rattle.psl_text.specs.declared.token.Kind.{Kind}
use Rattle.psl_text.specs.declared.token.Kind.TheVariants as kind
use Rattle.psl_text.specs.declared.token.Token.{Token}
use Rattle.psl_text.specs.declared.tree.Name.{Name}
use Rattle.psl_text.specs.Parser.{Outcome, Parser, and_then, kind_of, place_of, text_of, rest_of, sees, same_kind, eat, expect, spelled, refusal}
use Rattle.psl_text.specs.Derives.{Sign, Spelled}

-- a step that went well, and what came behind it
pub bind_ok : {A B : Type 0} (o : Outcome A) (f : A → Parser B) (y : B) (rest : List Token) → and_then o f ≡ Ok (y, rest)
    → (x : A) × (us : List Token) × (o ≡ Ok (x, us)) × (f x us ≡ Ok (y, rest))
bind_ok (Ok p) f y rest e = (p.0, p.1, refl, e)
bind_ok (Err fault) f y rest e = absurd (cc)

-- what a parser gives when it goes well
abbrev pub done : {A : Type 0} → A → List Token → Outcome A
done x us = Ok (x, us)

ok_pair : {A : Type 0} (p q : A) (o : Result A TextFault) → o ≡ Ok p → o ≡ Ok q → p ≡ q
ok_pair p q o d e = cc

pub ok_value : {A : Type 0} (x y : A) (us vs : List Token) → done x us ≡ done y vs → x ≡ y
ok_value x y us vs e = ap (λ p. p.0) (ok_pair (x, us) (y, vs) (done x us) refl e)

pub ok_rest : {A : Type 0} (x y : A) (us vs : List Token) → done x us ≡ done y vs → us ≡ vs
ok_rest x y us vs e = ap (λ p. p.1) (ok_pair (x, us) (y, vs) (done x us) refl e)

-- a kind that the end of the tokens doesn't have
pub record IsInside (k : Kind) : Type 0 where
  pub other : same_kind kind.End k ≡ false

pub kinds_same : (k l : Kind) → same_kind k l ≡ true → k ≡ l
unfolding same_kind
kinds_same k l e = same_true the_type (search rules) k l e

pub sees_sign : (k : Kind) (ts : List Token) → IsInside k → sees k ts ≡ true → Sign k ts (rest_of ts)
unfolding sees kind_of rest_of
sees_sign k [] inside e = let other = inside.other in absurd (cc)
sees_sign k (t ∷ ts) inside e = Sign.sign (kinds_same t.kind k e)

pub sign_sees : (k : Kind) (ts us : List Token) → same_kind k k ≡ true → Sign k ts us → (sees k ts ≡ true) × (rest_of ts ≡ us)
unfolding sees kind_of rest_of
sign_sees k ts us self (Sign.sign e) = (ap (λ l. same_kind l k) e ∙ self, refl)

-- a token of one kind is none of another
pub sign_other : (k l : Kind) (ts us : List Token) → same_kind k l ≡ false → Sign k ts us → sees l ts ≡ false
unfolding sees kind_of
sign_other k l ts us other (Sign.sign e) = ap (λ m. same_kind m l) e ∙ other

pub spelled_sees : (k : Kind) (ts : List Token) (n : Name) (us : List Token) → Spelled k ts n us → Sign k ts us
spelled_sees k ts n us (Spelled.spelled e) = Sign.sign e

pub sign_shrinks : (k : Kind) (ts us : List Token) → Sign k ts us → length us < length ts
sign_shrinks k ts us (Sign.sign e) = omega arith

-- ---- a token that comes next or not

when_by : {B : Type 0} (b : Bool) (k : Kind) (ts : List Token) (p q : Parser B) (y : B) (rest : List Token) → IsInside k → sees k ts ≡ b
    → and_then (cond b (Ok (true, rest_of ts)) (Ok (false, ts))) (λ found. cond found p q) ≡ Ok (y, rest)
    → ((us : List Token) × Sign k ts us × (p us ≡ Ok (y, rest))) ⊎ ((sees k ts ≡ false) × (q ts ≡ Ok (y, rest)))
when_by true k ts p q y rest inside e h = inl (rest_of ts, sees_sign k ts inside e, h)
when_by false k ts p q y rest inside e h = inr (e, h)

pub when_ok : {B : Type 0} (k : Kind) (ts : List Token) (p q : Parser B) (y : B) (rest : List Token) → IsInside k
    → and_then (eat k ts) (λ found. cond found p q) ≡ Ok (y, rest)
    → ((us : List Token) × Sign k ts us × (p us ≡ Ok (y, rest))) ⊎ ((sees k ts ≡ false) × (q ts ≡ Ok (y, rest)))
when_ok k ts p q y rest inside h = when_by (sees k ts) k ts p q y rest inside refl h

pub when_yes : {B : Type 0} (k : Kind) (ts us : List Token) (p q : Parser B) → same_kind k k ≡ true → Sign k ts us → and_then (eat k ts) (λ found. cond found p q) ≡ p us
when_yes k ts us p q self s =
    let seen = sign_sees k ts us self s in
    ap (λ b. and_then (cond b (Ok (true, rest_of ts)) (Ok (false, ts))) (λ found. cond found p q)) seen.0 ∙ ap p seen.1

pub when_no : {B : Type 0} (k : Kind) (ts : List Token) (p q : Parser B) → sees k ts ≡ false → and_then (eat k ts) (λ found. cond found p q) ≡ q ts
when_no k ts p q e = ap (λ b. and_then (cond b (Ok (true, rest_of ts)) (Ok (false, ts))) (λ found. cond found p q)) e

-- ---- a token that has to come next

guard_ok : {B : Type 0} (b : Bool) (x y : Result B TextFault) (z : B) (fault : TextFault) → cond b x (Err fault) ≡ Ok z → (b ≡ true) × (x ≡ Ok z)
guard_ok true x y z fault e = (refl, e)
guard_ok false x y z fault e = absurd (cc)

pub expect_ok : (k : Kind) (ts us : List Token) (u : Unit {0}) → IsInside k → expect k ts ≡ Ok (u, us) → Sign k ts us
unfolding expect
expect_ok k ts us u inside e =
    let parts = guard_ok (sees k ts) (Ok (tt, rest_of ts)) (Ok (tt, ts)) (u, us) (refusal ts) e in
    let same : rest_of ts ≡ us = ok_rest tt u (rest_of ts) us parts.1 in
    subst (Sign k ts) same (sees_sign k ts inside parts.0)

pub expect_sign : (k : Kind) (ts us : List Token) → same_kind k k ≡ true → Sign k ts us → expect k ts ≡ Ok (tt, us)
unfolding expect
expect_sign k ts us self s =
    let seen = sign_sees k ts us self s in
    ap (λ b. cond b (Ok (tt, rest_of ts)) (Err (refusal ts))) seen.0 ∙ ap (λ r. Ok (tt, r)) seen.1

pub spelled_ok : (k : Kind) (ts us : List Token) (n : Name) → IsInside k → spelled k ts ≡ Ok (n, us) → Spelled k ts n us
unfolding spelled sees kind_of text_of place_of rest_of
spelled_ok k [] us n inside e = let other = inside.other in absurd (cc)
spelled_ok k (t ∷ ts) us n inside e =
    let parts = guard_ok (same_kind t.kind k) (Ok (record { text = t.text; at = t.at }, ts)) (Ok (record { text = t.text; at = t.at }, ts)) (n, us) (refusal (t ∷ ts)) e in
    let rest : ts ≡ us = ok_rest (record { text = t.text; at = t.at }) n ts us parts.1 in
    let called : record { text = t.text; at = t.at } ≡ n = ok_value (record { text = t.text; at = t.at }) n ts us parts.1 in
    subst (λ r. Spelled k (t ∷ ts) n r) rest (subst (λ m. Spelled k (t ∷ ts) m ts) called (Spelled.spelled (kinds_same t.kind k parts.0)))

pub spelled_is : (k : Kind) (ts us : List Token) (n : Name) → same_kind k k ≡ true → Spelled k ts n us → spelled k ts ≡ Ok (n, us)
unfolding spelled sees kind_of text_of place_of rest_of
spelled_is k ts us n self (Spelled.spelled {t} {rest} e) = ap (λ b. cond b (Ok (record { text = t.text; at = t.at }, rest)) (Err (refusal (t ∷ rest)))) (ap (λ l. same_kind l k) e ∙ self)
