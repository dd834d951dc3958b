-- Terms: what is read is derived, and what is derived is read.
use Rattle.std.proofs.Common.{◌≡◌, ◌<◌, Bool, true, false, cond, List, [], length, Option, Some, None, Ok, ◌⊎◌, inl, inr, refl, sym, ap, subst, ◌∙◌, arith}
use Rattle.psl_text.specs.declared.token.Kind.{Kind}
use Rattle.psl_text.specs.declared.token.Kind.TheVariants as kind
use Rattle.psl_text.specs.declared.token.Token.{Token}
use Rattle.psl_text.specs.declared.tree.Name.{Name}
use Rattle.psl_text.specs.declared.tree.Term.{Term}
use Rattle.psl_text.specs.declared.tree.Argument.{Argument, roll-Argument}
use Rattle.psl_text.specs.Scan.{is_fault}
use Rattle.psl_text.specs.Parser.{Outcome, Parser, and_then, ◌>>=◌, ◌>>◌, pure, sees, same_kind, kind_of, rest_of, expect, name}
use Rattle.psl_text.specs.Grammar.{named_by, argument_name, argument, arguments, items}
use Rattle.psl_text.specs.Derives.{Sign, Spelled, Separated, IsArgument}
use Rattle.psl_text.proofs.Steps.{bind_ok, ok_value, ok_rest, IsInside, expect_ok, expect_sign, spelled_ok, spelled_is, spelled_sees, sign_sees, sign_other, sign_shrinks}
use Rattle.psl_text.proofs.Separate.{separated_ok, separated_is, Stops}

-- ---- signs that differ

pub name_inside : IsInside kind.Name
unfolding same_kind
name_inside = record { other = refl }

pub name_self : same_kind kind.Name kind.Name ≡ true
unfolding same_kind
name_self = refl

pub colon_inside : IsInside kind.Colon
unfolding same_kind
colon_inside = record { other = refl }

pub colon_self : same_kind kind.Colon kind.Colon ≡ true
unfolding same_kind
colon_self = refl

pub paren_inside : IsInside kind.OpenParen
unfolding same_kind
paren_inside = record { other = refl }

pub paren_self : same_kind kind.OpenParen kind.OpenParen ≡ true
unfolding same_kind
paren_self = refl

pub close_paren_inside : IsInside kind.CloseParen
unfolding same_kind
close_paren_inside = record { other = refl }

pub close_paren_self : same_kind kind.CloseParen kind.CloseParen ≡ true
unfolding same_kind
close_paren_self = refl

pub bracket_inside : IsInside kind.OpenBracket
unfolding same_kind
bracket_inside = record { other = refl }

pub bracket_self : same_kind kind.OpenBracket kind.OpenBracket ≡ true
unfolding same_kind
bracket_self = refl

pub close_bracket_inside : IsInside kind.CloseBracket
unfolding same_kind
close_bracket_inside = record { other = refl }

pub close_bracket_self : same_kind kind.CloseBracket kind.CloseBracket ≡ true
unfolding same_kind
close_bracket_self = refl

pub text_inside : IsInside kind.Text
unfolding same_kind
text_inside = record { other = refl }

pub text_self : same_kind kind.Text kind.Text ≡ true
unfolding same_kind
text_self = refl

pub number_inside : IsInside kind.Number
unfolding same_kind
number_inside = record { other = refl }

pub number_self : same_kind kind.Number kind.Number ≡ true
unfolding same_kind
number_self = refl

-- ---- behind a term

-- the kind of the next token, which is a sign
pub sign_kind : (k : Kind) (ts us : List Token) → Sign k ts us → kind_of ts ≡ k
unfolding kind_of
sign_kind k ts us (Sign.sign e) = e

-- a kind that stops a term
pub record IsStop (k : Kind) : Type 0 where
  pub no_arguments : same_kind k kind.OpenParen ≡ false
  pub no_name : same_kind k kind.Colon ≡ false
  pub no_dot : same_kind k kind.Dot ≡ false
  pub no_fault : is_fault k ≡ false

pub stops : (k : Kind) (ts us : List Token) → IsStop k → Sign k ts us → Stops ts
stops k ts us s h = record {
  no_arguments = sign_other k kind.OpenParen ts us s.no_arguments h;
  no_name = sign_other k kind.Colon ts us s.no_name h;
  no_dot = sign_other k kind.Dot ts us s.no_dot h;
  no_fault = ap is_fault (sign_kind k ts us h) ∙ s.no_fault;
}

pub stop_comma : IsStop kind.Comma
unfolding same_kind
stop_comma = record { no_arguments = refl; no_name = refl; no_dot = refl; no_fault = refl }

pub stop_close_paren : IsStop kind.CloseParen
unfolding same_kind
stop_close_paren = record { no_arguments = refl; no_name = refl; no_dot = refl; no_fault = refl }

pub stop_close_bracket : IsStop kind.CloseBracket
unfolding same_kind
stop_close_bracket = record { no_arguments = refl; no_name = refl; no_dot = refl; no_fault = refl }

-- ---- the names of arguments

-- what was found in front of a value
abbrev pub Named : List Token → Option Name → List Token → Type 0
Named ts None us = ts ≡ us
Named ts (Some n) us = (vs : List Token) × Spelled kind.Name ts n vs × Sign kind.Colon vs us

named_ok : (k : Kind) (ts : List Token) (o : Option Name) (us : List Token) → named_by k ts ≡ Ok (o, us) → Named ts o us
named_ok kind.Colon ts o us e =
    let first = bind_ok (name ts) (λ n. expect kind.Colon >> pure (Some n)) o us e in
    let second = bind_ok (expect kind.Colon first.1) (λ _. pure (Some first.0)) o us first.3 in
    let called : Some first.0 ≡ o = ok_value (Some first.0) o second.1 us second.3 in
    let rest : second.1 ≡ us = ok_rest (Some first.0) o second.1 us second.3 in
    subst (λ p. Named ts p us) called (first.1, spelled_ok kind.Name ts first.1 first.0 name_inside first.2, subst (Sign kind.Colon first.1) rest (expect_ok kind.Colon first.1 second.1 second.0 colon_inside second.2))
named_ok kind.BadCharacter ts o us e = absurd (cc)
named_ok kind.Unclosed ts o us e = absurd (cc)
named_ok _ ts o us e = subst (λ p. Named ts p us) (ok_value None o ts us e) (ok_rest None o ts us e)

pub either_ok : {X : Type 0} (b : Bool) (x y z : X) → cond b x y ≡ z → (x ≡ z) ⊎ (y ≡ z)
either_ok true x y z e = inl e
either_ok false x y z e = inr e

pub argument_name_ok : (ts : List Token) (o : Option Name) (us : List Token) → argument_name ts ≡ Ok (o, us) → Named ts o us
unfolding argument_name
argument_name_ok ts o us e =
    elim (either_ok (sees kind.Name ts) (named_by (kind_of (rest_of ts)) ts) (Ok (None, ts)) (Ok (o, us)) e) [
      | inl h ↦ named_ok (kind_of (rest_of ts)) ts o us h
      | inr h ↦ subst (λ p. Named ts p us) (ok_value None o ts us h) (ok_rest None o ts us h)
    ]

-- by the token behind the name
named_behind : (ts us : List Token) (n : Name) (o : Outcome (Option Name)) → Spelled kind.Name ts n us → named_by (kind_of us) ts ≡ o → argument_name ts ≡ o
unfolding argument_name
named_behind ts us n o s e =
    let seen = sign_sees kind.Name ts us name_self (spelled_sees kind.Name ts n us s) in
    ap (λ b. cond b (named_by (kind_of (rest_of ts)) ts) (Ok (None, ts))) seen.0 ∙ ap (λ r. named_by (kind_of r) ts) seen.1 ∙ e

pub named_yes : (ts us vs : List Token) (n : Name) → Spelled kind.Name ts n us → Sign kind.Colon us vs → argument_name ts ≡ Ok (Some n, vs)
named_yes ts us vs n s c =
    named_behind ts us n (Ok (Some n, vs)) s
    (ap (λ k. named_by k ts) (sign_kind kind.Colon us vs c) ∙ ap (λ o. and_then o (λ m. expect kind.Colon >> pure (Some m))) (spelled_is kind.Name ts us n name_self s)
    ∙ ap (λ o. and_then o (λ _. pure (Some n))) (expect_sign kind.Colon us vs colon_self c))

named_none : (k : Kind) (ts : List Token) → same_kind k kind.Colon ≡ false → is_fault k ≡ false → named_by k ts ≡ Ok (None, ts)
unfolding same_kind
named_none kind.Colon ts no_colon no_fault = absurd (cc)
named_none kind.BadCharacter ts no_colon no_fault = absurd (cc)
named_none kind.Unclosed ts no_colon no_fault = absurd (cc)
named_none _ ts no_colon no_fault = refl

-- a name that stands for itself
pub unnamed_name : (ts us : List Token) (n : Name) → Spelled kind.Name ts n us → same_kind (kind_of us) kind.Colon ≡ false → is_fault (kind_of us) ≡ false → argument_name ts ≡ Ok (None, ts)
unnamed_name ts us n s no_colon no_fault = named_behind ts us n (Ok (None, ts)) s (named_none (kind_of us) ts no_colon no_fault)

-- no name at all
pub unnamed_other : (k : Kind) (ts us : List Token) → same_kind k kind.Name ≡ false → Sign k ts us → argument_name ts ≡ Ok (None, ts)
unfolding argument_name
unnamed_other k ts us other s = ap (λ b. cond b (named_by (kind_of (rest_of ts)) ts) (Ok (None, ts))) (sign_other k kind.Name ts us other s)

-- ---- what holds of a parser of values and of its rule

pub record IsValue (value : Parser Term) (Value : List Token → Term → List Token → Type 0) : Type 0 where
  pub read : (ts : List Token) (v : Term) (us : List Token) → value ts ≡ Ok (v, us) → Value ts v us
  pub found : (ts : List Token) (v : Term) (us : List Token) → Value ts v us → Stops us → value ts ≡ Ok (v, us)
  pub no_paren : (ts : List Token) (v : Term) (us : List Token) → Value ts v us → sees kind.CloseParen ts ≡ false
  pub no_bracket : (ts : List Token) (v : Term) (us : List Token) → Value ts v us → sees kind.CloseBracket ts ≡ false
  pub unnamed : (ts : List Token) (v : Term) (us : List Token) → Value ts v us → Stops us → argument_name ts ≡ Ok (None, ts)
  pub shrinks : (ts : List Token) (v : Term) (us : List Token) → Value ts v us → length us < length ts

-- ---- arguments

with_name : Option Name → Term → Argument
with_name o v = roll-Argument (record { name = o; value = v })

module _ (value : Parser Term) (Value : List Token → Term → List Token → Type 0) (is : IsValue value Value) where
  named_argument : (ts : List Token) (o : Option Name) (us : List Token) (v : Term) (rest : List Token) → Named ts o us → Value us v rest → IsArgument Value ts (roll-Argument (record { name = o; value = v })) rest
  named_argument ts None us v rest n h = IsArgument.plain (subst (λ zs. Value zs v rest) (sym n) h)
  named_argument ts (Some m) us v rest n h = IsArgument.named n.1 n.2 h

  pub argument_ok : (ts : List Token) (a : Argument) (rest : List Token) → argument value ts ≡ Ok (a, rest) → IsArgument Value ts a rest
  unfolding argument
  argument_ok ts a rest e =
      let first = bind_ok (argument_name ts) (λ n. value >>= λ v. pure (roll-Argument (record { name = n; value = v }))) a rest e in
      let second = bind_ok (value first.1) (λ v. pure (roll-Argument (record { name = first.0; value = v }))) a rest first.3 in
      let whole = named_argument ts first.0 first.1 second.0 second.1 (argument_name_ok ts first.0 first.1 first.2) (is.read first.1 second.0 second.1 second.2) in
      let given : roll-Argument (record { name = first.0; value = second.0 }) ≡ a = ok_value (roll-Argument (record { name = first.0; value = second.0 })) a second.1 rest second.3 in
      let left : second.1 ≡ rest = ok_rest (roll-Argument (record { name = first.0; value = second.0 })) a second.1 rest second.3 in
      subst (λ zs. IsArgument Value ts a zs) left (subst (λ x. IsArgument Value ts x second.1) given whole)

  pub argument_is : (ts : List Token) (a : Argument) (rest : List Token) → IsArgument Value ts a rest → Stops rest → argument value ts ≡ Ok (a, rest)
  unfolding argument
  argument_is ts a rest (IsArgument.plain {v} h) stop =
      ap (λ o. and_then o (λ n. value >>= λ w. pure (roll-Argument (record { name = n; value = w })))) (is.unnamed ts v rest h stop)
      ∙ ap (λ o. and_then o (λ w. pure (roll-Argument (record { name = None; value = w })))) (is.found ts v rest h stop)
  argument_is ts a rest (IsArgument.named {us} {vs} {n} {v} s c h) stop =
      ap (λ o. and_then o (λ m. value >>= λ w. pure (roll-Argument (record { name = m; value = w })))) (named_yes ts us vs n s c)
      ∙ ap (λ o. and_then o (λ w. pure (roll-Argument (record { name = Some n; value = w })))) (is.found vs v rest h stop)

  pub argument_begins : (ts : List Token) (a : Argument) (rest : List Token) → IsArgument Value ts a rest → sees kind.CloseParen ts ≡ false
  unfolding same_kind
  argument_begins ts a rest (IsArgument.plain {v} h) = is.no_paren ts v rest h
  argument_begins ts a rest (IsArgument.named {us} {n} s c h) = sign_other kind.Name kind.CloseParen ts us refl (spelled_sees kind.Name ts n us s)

  pub argument_shrinks : (ts : List Token) (a : Argument) (rest : List Token) → IsArgument Value ts a rest → length rest < length ts
  argument_shrinks ts a rest (IsArgument.plain {v} h) = is.shrinks ts v rest h
  argument_shrinks ts a rest (IsArgument.named {us} {vs} {n} {v} s c h) = omega (arith, sign_shrinks kind.Name ts us (spelled_sees kind.Name ts n us s), sign_shrinks kind.Colon us vs c, is.shrinks vs v rest h)

  pub arguments_ok : (ts : List Token) (as' : List Argument) (rest : List Token) → arguments value ts ≡ Ok (as', rest) → Separated (IsArgument Value) kind.CloseParen ts as' rest
  unfolding arguments
  arguments_ok ts as' rest e =
      let found = separated_ok (IsArgument Value) (argument value) kind.CloseParen close_paren_inside argument_ok (length ts) [] ts as' rest e in
      subst (λ xs. Separated (IsArgument Value) kind.CloseParen ts xs rest) (sym found.1) found.2

  pub arguments_is : (ts : List Token) (as' : List Argument) (rest : List Token) → Separated (IsArgument Value) kind.CloseParen ts as' rest → arguments value ts ≡ Ok (as', rest)
  unfolding arguments same_kind
  arguments_is ts as' rest d =
      separated_is (IsArgument Value) (argument value) kind.CloseParen refl refl (λ us vs s. stops kind.CloseParen us vs stop_close_paren s) (λ us vs s. stops kind.Comma us vs stop_comma s)
      argument_is argument_begins argument_shrinks (length ts) [] ts as' rest d (omega arith)

  pub items_ok : (ts : List Token) (vs : List Term) (rest : List Token) → items value ts ≡ Ok (vs, rest) → Separated Value kind.CloseBracket ts vs rest
  unfolding items
  items_ok ts vs rest e =
      let found = separated_ok Value value kind.CloseBracket close_bracket_inside is.read (length ts) [] ts vs rest e in
      subst (λ xs. Separated Value kind.CloseBracket ts xs rest) (sym found.1) found.2

  pub items_is : (ts : List Token) (vs : List Term) (rest : List Token) → Separated Value kind.CloseBracket ts vs rest → items value ts ≡ Ok (vs, rest)
  unfolding items same_kind
  items_is ts vs rest d =
      separated_is Value value kind.CloseBracket refl refl (λ us ws s. stops kind.CloseBracket us ws stop_close_bracket s) (λ us ws s. stops kind.Comma us ws stop_comma s)
      is.found is.no_bracket is.shrinks (length ts) [] ts vs rest d (omega arith)
