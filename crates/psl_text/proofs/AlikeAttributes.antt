-- Attributes of tokens that begin alike.
use Rattle.std.proofs.Common.{◌≡◌, ℕ, zero, suc, ◌<◌, ◌≤◌, false, List, [], ◌∷◌, ◌++◌, length, Ok, Err, inl, inr, ap, ◌∙◌, arith, append_assoc}
use Rattle.psl_text.specs.declared.fault.TextFault.{TextFault}
use Rattle.psl_text.specs.declared.token.Kind.TheVariants as kind
use Rattle.psl_text.specs.declared.token.Token.{Token}
use Rattle.psl_text.specs.declared.tree.Name.{Name}
use Rattle.psl_text.specs.declared.tree.Attribute.{Attribute}
use Rattle.psl_text.specs.Parser.{Parser, ◌>>=◌, pure, sees, name}
use Rattle.psl_text.specs.Grammar.{max_depth, whole_term, arguments, attribute_name, arguments_if_any, attribute, block_attribute, attributes_from, attributes}
use Rattle.psl_text.specs.Derives.{Sign, Spelled, IsTerm, IsAttributeName}
use Rattle.psl_text.specs.Stops.{Misses, TermStops, AttributeNameStops, AttributeStops, AttributesStop}
use Rattle.psl_text.proofs.Steps.{bind_ok, ok_value, ok_rest, when_ok, when_yes, when_no, sign_shrinks}
use Rattle.psl_text.proofs.TermRules.{stops, name_inside, name_self, paren_inside, paren_self}
use Rattle.psl_text.proofs.LevelRules.{term_value}
use Rattle.psl_text.proofs.AttributeRules.{dot_inside, dot_self, at_inside, at_self, stop_at, attribute_name_ok, attribute_name_shrinks, field_attribute_ok, field_attribute_is, field_attribute_shrinks, plain_ok, plain_shrinks}
use Rattle.psl_text.proofs.FaultSteps.{bind_stops, bind_goes, misses_sees, sign_spelled, Refuses, Reaches}
use Rattle.psl_text.proofs.FaultSeparate.{end_misses}
use Rattle.psl_text.proofs.FaultLevels.{term_judges}
use Rattle.psl_text.proofs.FaultAttributes.{dotted, behind_name, GivenStops, FieldAttributeStops, each, Apart, called_before, attribute_name_found, attribute_name_stops, attribute_name_reaches, plain_refuses, plain_reaches, stop_begins}
use Rattle.psl_text.proofs.Alike.{Alike, seen_again, between, both, Taken, Lost, Keeps, Loses, keeps_pure, keeps_bind, keeps_spelled, keeps_when, taken_spelled, lost_here, lost_later, lost_yes, lost_spelled}
use Rattle.psl_text.proofs.AlikeTerms.{arguments_keep, arguments_lose}
use Rattle.psl_text.proofs.AlikeLevels.{term_local, no_longer}

-- ---- one attribute

attribute_name_keeps : Keeps attribute_name
unfolding attribute_name
attribute_name_keeps = keeps_bind name behind_name (keeps_spelled kind.Name name_inside name_self) (λ m. keeps_when kind.Dot dot_inside dot_self (dotted m) (pure m)
    (keeps_bind name (λ second. pure (record { text = m.text ++ 46 ∷ second.text; at = m.at })) (keeps_spelled kind.Name name_inside name_self) (λ second. keeps_pure (record { text = m.text ++ 46 ∷ second.text; at = m.at }))) (keeps_pure m))

attribute_name_loses : Loses attribute_name AttributeNameStops
unfolding attribute_name
attribute_name_loses ts us (AttributeNameStops.name m) = lost_here name behind_name ts us (lost_spelled kind.Name ts us m)
attribute_name_loses ts us (AttributeNameStops.dotted {us = mid} {vs = next} s d m) =
    let n = sign_spelled kind.Name ts mid s in
    lost_later name behind_name ts n.0 mid us (taken_spelled kind.Name name_inside name_self ts n.0 mid n.1) (lost_yes kind.Dot dot_inside dot_self (dotted n.0) (pure n.0) mid next us d
    (lost_here name (λ second. pure (record { text = n.0.text ++ 46 ∷ second.text; at = n.0.at })) next us (lost_spelled kind.Name next us m)))

if_any_keeps : Keeps arguments_if_any
unfolding arguments_if_any
if_any_keeps = keeps_when kind.OpenParen paren_inside paren_self (arguments whole_term) (pure []) (arguments_keep whole_term (IsTerm max_depth) (TermStops max_depth) (term_value max_depth) (term_judges max_depth) (term_local max_depth)) (keeps_pure [])

if_any_lost : (ts mid us : List Token) → Sign kind.OpenParen ts mid → GivenStops mid us → Lost arguments_if_any ts us
unfolding arguments_if_any
if_any_lost ts mid us p d = lost_yes kind.OpenParen paren_inside paren_self (arguments whole_term) (pure []) ts mid us p
    (arguments_lose whole_term (IsTerm max_depth) (TermStops max_depth) (term_value max_depth) (term_judges max_depth) (term_local max_depth) mid us d)

module _ (called : Parser Name) (Called : List Token → Name → List Token → Type 0) (CalledStops : List Token → List Token → Type 0) (called_ok : (ts : List Token) (n : Name) (us : List Token) → called ts ≡ Ok (n, us) → Called ts n us)
    (called_refuses : Refuses called CalledStops) (called_reaches : Reaches called Apart Called) (called_shrinks : (ts : List Token) (n : Name) (us : List Token) → Called ts n us → length us < length ts)
    (called_keeps : Keeps called) (called_loses : Loses called CalledStops) where
  abbrev behind_called : Name → Parser Attribute
  behind_called n = arguments_if_any >>= λ given. pure (record { name = n; arguments = given })

  attribute_keeps : Keeps (called >>= behind_called)
  attribute_keeps = keeps_bind called behind_called called_keeps (λ n. keeps_bind arguments_if_any (λ given. pure (record { name = n; arguments = given })) if_any_keeps (λ given. keeps_pure (record { name = n; arguments = given })))

  attribute_loses : Loses (called >>= behind_called) (AttributeStops Called CalledStops)
  attribute_loses ts us (AttributeStops.name s) = lost_here called behind_called ts us (called_loses ts us s)
  attribute_loses ts us (AttributeStops.arguments {us = mid} {vs = next} {n} c p d) =
      lost_later called behind_called ts n mid us (called_keeps ts n mid (called_before called Called CalledStops called_ok called_refuses called_reaches called_shrinks ts mid next n c p))
      (lost_here arguments_if_any (λ given. pure (record { name = n; arguments = given })) mid us (if_any_lost mid next us p d))

field_attribute_keeps : Keeps attribute
unfolding attribute
field_attribute_keeps = attribute_keeps attribute_name IsAttributeName AttributeNameStops attribute_name_ok (record { found = attribute_name_found; stops = attribute_name_stops }) attribute_name_reaches attribute_name_shrinks attribute_name_keeps attribute_name_loses

field_attribute_loses : Loses attribute FieldAttributeStops
unfolding attribute
field_attribute_loses = attribute_loses attribute_name IsAttributeName AttributeNameStops attribute_name_ok (record { found = attribute_name_found; stops = attribute_name_stops }) attribute_name_reaches attribute_name_shrinks attribute_name_keeps attribute_name_loses

pub block_attribute_keeps : Keeps block_attribute
unfolding block_attribute
block_attribute_keeps = attribute_keeps name (Spelled kind.Name) (Misses kind.Name) plain_ok plain_refuses plain_reaches plain_shrinks (keeps_spelled kind.Name name_inside name_self) (lost_spelled kind.Name)

pub block_attribute_loses : Loses block_attribute (AttributeStops (Spelled kind.Name) (Misses kind.Name))
unfolding block_attribute
block_attribute_loses = attribute_loses name (Spelled kind.Name) (Misses kind.Name) plain_ok plain_refuses plain_reaches plain_shrinks (keeps_spelled kind.Name name_inside name_self) (lost_spelled kind.Name)

-- ---- runs of attributes

-- a run that is read, and one that is refused, in turns enough
record RunTaken (found : List Attribute) (ts : List Token) (xs : List Attribute) (us : List Token) : Type 0 where
  pub front : List Token
  pub split : ts ≡ front ++ us
  pub again : (vs : List Token) (n : ℕ) → Alike us vs → length (front ++ vs) ≤ n → attributes_from n found (front ++ vs) ≡ Ok (xs, vs)

record RunLost (ts us : List Token) : Type 0 where
  pub front : List Token
  pub split : ts ≡ front ++ us
  pub again : (vs : List Token) (n : ℕ) (found : List Attribute) → Alike us vs → length (front ++ vs) ≤ n → (e : TextFault) × (attributes_from n found (front ++ vs) ≡ Err e)

last_taken : (found : List Attribute) (ts : List Token) (xs : List Attribute) (us : List Token) → sees kind.At ts ≡ false → pure found ts ≡ Ok (xs, us) → RunTaken found ts xs us
unfolding attributes_from
last_taken found ts xs us none e =
    let same : ts ≡ us = ok_rest found xs ts us e in
    record {
      front = [];
      split = same;
      again = λ vs n a small. elim n as (λ j. attributes_from j found vs ≡ Ok (xs, vs)) [
        | zero ↦ ap (λ ys. Ok (ys, vs)) (ok_value found xs ts us e)
        | suc k ↦ when_no kind.At vs (each k found) (pure found) (seen_again kind.At false ts [] us vs same a none) ∙ ap (λ ys. Ok (ys, vs)) (ok_value found xs ts us e)
      ];
    }

more_taken : (found : List Attribute) (ts next : List Token) (x : Attribute) (mid : List Token) (xs : List Attribute) (us : List Token) → Sign kind.At ts next → Taken attribute next x mid → RunTaken (found ++ x ∷ []) mid xs us → RunTaken found ts xs us
unfolding attributes_from
more_taken found ts next x mid xs us (Sign.sign {t = c} e) t l = record {
  front = c ∷ (t.front ++ l.front);
  split = ap (λ zs. c ∷ zs) (both next t.front mid l.front us t.split l.split);
  again = λ vs n a small. elim n as (λ j. length (c ∷ ((t.front ++ l.front) ++ vs)) ≤ j → attributes_from j found (c ∷ ((t.front ++ l.front) ++ vs)) ≡ Ok (xs, vs)) [
    | zero ↦ λ bound. absurd (omega (arith, bound))
    | suc k ↦ λ bound.
        let same : length ((t.front ++ l.front) ++ vs) ≡ length (t.front ++ (l.front ++ vs)) = ap (λ zs. length zs) (append_assoc t.front l.front vs) in
        when_yes kind.At (c ∷ ((t.front ++ l.front) ++ vs)) ((t.front ++ l.front) ++ vs) (each k found) (pure found) at_self (Sign.sign e)
        ∙ ap (λ zs. each k found zs) (append_assoc t.front l.front vs)
        ∙ bind_goes (attribute (t.front ++ (l.front ++ vs))) (λ y. attributes_from k (found ++ y ∷ [])) x (l.front ++ vs) (t.again (l.front ++ vs) (between mid l.front us vs l.split a))
        ∙ l.again vs k a (omega (arith, bound, same, no_longer t.front (l.front ++ vs)))
  ] small;
}

-- past the last token is no sign
nothing_seen : (ts : List Token) → length ts ≤ 0 → sees kind.At ts ≡ false
nothing_seen [] small = misses_sees kind.At [] (end_misses kind.At at_inside)
nothing_seen (t ∷ ts) small = absurd (omega arith)

attributes_from_keep : (n : ℕ) (found : List Attribute) (ts : List Token) (xs : List Attribute) (us : List Token) → length ts ≤ n → attributes_from n found ts ≡ Ok (xs, us) → RunTaken found ts xs us
unfolding attributes_from
attributes_from_keep zero found ts xs us small e = last_taken found ts xs us (nothing_seen ts small) e
attributes_from_keep (suc n) found ts xs us small e = elim (when_ok kind.At ts (each n found) (pure found) xs us at_inside e) [
  | inl at ↦
      let step = bind_ok (attribute at.0) (λ y. attributes_from n (found ++ y ∷ [])) xs us at.2 in
      let shorter = field_attribute_shrinks at.0 step.0 step.1 (field_attribute_ok at.0 step.0 step.1 step.2) in
      more_taken found ts at.0 step.0 step.1 xs us at.1 (field_attribute_keeps at.0 step.0 step.1 step.2)
      (attributes_from_keep n (found ++ step.0 ∷ []) step.1 xs us (omega (arith, shorter, sign_shrinks kind.At ts at.0 at.1)) step.3)
  | inr other ↦ last_taken found ts xs us other.0 other.1
]

pub attributes_keep : Keeps attributes
unfolding attributes
attributes_keep ts xs us e = let l = attributes_from_keep (length ts) [] ts xs us (omega arith) e in record { front = l.front; split = l.split; again = λ vs a. l.again vs (length (l.front ++ vs)) a (omega arith) }

here_lost : (ts next us : List Token) → Sign kind.At ts next → Lost attribute next us → RunLost ts us
unfolding attributes_from
here_lost ts next us (Sign.sign {t = c} e) l = record {
  front = c ∷ l.front;
  split = ap (λ zs. c ∷ zs) l.split;
  again = λ vs n found a small. elim n as (λ j. length (c ∷ (l.front ++ vs)) ≤ j → (f : TextFault) × (attributes_from j found (c ∷ (l.front ++ vs)) ≡ Err f)) [
    | zero ↦ λ bound. absurd (omega (arith, bound))
    | suc k ↦ λ bound.
        let h = l.again vs a in
        (h.0, when_yes kind.At (c ∷ (l.front ++ vs)) (l.front ++ vs) (each k found) (pure found) at_self (Sign.sign e) ∙ bind_stops (attribute (l.front ++ vs)) (λ y. attributes_from k (found ++ y ∷ [])) h.0 h.1)
  ] small;
}

later_lost : (ts next : List Token) (x : Attribute) (mid us : List Token) → Sign kind.At ts next → Taken attribute next x mid → RunLost mid us → RunLost ts us
unfolding attributes_from
later_lost ts next x mid us (Sign.sign {t = c} e) t l = record {
  front = c ∷ (t.front ++ l.front);
  split = ap (λ zs. c ∷ zs) (both next t.front mid l.front us t.split l.split);
  again = λ vs n found a small. elim n as (λ j. length (c ∷ ((t.front ++ l.front) ++ vs)) ≤ j → (f : TextFault) × (attributes_from j found (c ∷ ((t.front ++ l.front) ++ vs)) ≡ Err f)) [
    | zero ↦ λ bound. absurd (omega (arith, bound))
    | suc k ↦ λ bound.
        let same : length ((t.front ++ l.front) ++ vs) ≡ length (t.front ++ (l.front ++ vs)) = ap (λ zs. length zs) (append_assoc t.front l.front vs) in
        let h = l.again vs k (found ++ x ∷ []) a (omega (arith, bound, same, no_longer t.front (l.front ++ vs))) in (
          h.0,
          when_yes kind.At (c ∷ ((t.front ++ l.front) ++ vs)) ((t.front ++ l.front) ++ vs) (each k found) (pure found) at_self (Sign.sign e)
              ∙ ap (λ zs. each k found zs) (append_assoc t.front l.front vs)
              ∙ bind_goes (attribute (t.front ++ (l.front ++ vs))) (λ y. attributes_from k (found ++ y ∷ [])) x (l.front ++ vs) (t.again (l.front ++ vs) (between mid l.front us vs l.split a))
              ∙ h.1,
        )
  ] small;
}

attributes_from_lose : (ts us : List Token) → AttributesStop ts us → RunLost ts us
attributes_from_lose ts us (AttributesStop.here {us = next} s a) = here_lost ts next us s (field_attribute_loses next us a)
attributes_from_lose ts us (AttributesStop.later {us = next} {vs = mid} {a} s h d) =
    let begins = stop_begins mid us d in
    later_lost ts next a mid us s (field_attribute_keeps next a mid (field_attribute_is next a mid h (stops kind.At mid begins.0 stop_at begins.1))) (attributes_from_lose mid us d)

pub attributes_lose : Loses attributes AttributesStop
unfolding attributes
attributes_lose ts us d = let l = attributes_from_lose ts us d in record { front = l.front; split = l.split; again = λ vs a. l.again vs (length (l.front ++ vs)) [] a (omega arith) }
