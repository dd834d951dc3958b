-- Attributes: what is read is derived, and what is derived is read.
use Rattle.std.proofs.Common.{◌≡◌, ℕ, zero, suc, ◌<◌, ◌≤◌, true, false, cond, List, [], ◌∷◌, ◌++◌, length, Ok, inl, inr, refl, sym, ap, subst, ◌∙◌, arith, append_assoc}
use Rattle.std.proofs.lemmas.List.{append-nil}
use Rattle.psl_text.specs.declared.token.Kind.{Kind}
use Rattle.psl_text.specs.declared.token.Kind.TheVariants as kind
use Rattle.psl_text.specs.declared.token.Token.{Token}
use Rattle.psl_text.specs.declared.tree.Name.{Name}
use Rattle.psl_text.specs.declared.tree.Argument.{Argument}
use Rattle.psl_text.specs.declared.tree.Attribute.{Attribute}
use Rattle.psl_text.specs.Parser.{Parser, and_then, ◌>>=◌, pure, sees, same_kind, eat, name}
use Rattle.psl_text.specs.Grammar.{max_depth, whole_term, arguments, attribute_name, arguments_if_any, attribute, block_attribute, attributes_from, attributes}
use Rattle.psl_text.specs.Derives.{Spelled, IsArgument, IsTerm, IsAttributeName, MayHaveArguments, IsAttribute, AreAttributes}
use Rattle.psl_text.proofs.Steps.{bind_ok, done, ok_value, ok_rest, IsInside, when_ok, when_yes, when_no, spelled_ok, spelled_is, spelled_sees, sign_other, sign_shrinks}
use Rattle.psl_text.proofs.Separate.{Stops}
use Rattle.psl_text.proofs.TermRules.{IsStop, stops, arguments_ok, arguments_is, argument_shrinks, name_inside, name_self, paren_inside, paren_self}
use Rattle.psl_text.proofs.LevelRules.{term_value, separated_shrinks}

pub finish : {A : Type 0} (R : A → List Token → Type 0) (x y : A) (us rest : List Token) → done x us ≡ done y rest → R x us → R y rest
finish R x y us rest e h = subst (λ zs. R y zs) (ok_rest x y us rest e) (subst (λ a. R a us) (ok_value x y us rest e) h)

pub dot_inside : IsInside kind.Dot
unfolding same_kind
dot_inside = record { other = refl }

pub dot_self : same_kind kind.Dot kind.Dot ≡ true
unfolding same_kind
dot_self = refl

pub at_inside : IsInside kind.At
unfolding same_kind
at_inside = record { other = refl }

pub at_self : same_kind kind.At kind.At ≡ true
unfolding same_kind
at_self = refl

pub stop_at : IsStop kind.At
unfolding same_kind
stop_at = record { no_arguments = refl; no_name = refl; no_dot = refl; no_fault = refl }

-- ---- names

pub attribute_name_ok : (ts : List Token) (n : Name) (rest : List Token) → attribute_name ts ≡ Ok (n, rest) → IsAttributeName ts n rest
unfolding attribute_name
attribute_name_ok ts n rest e =
    let first = bind_ok (name ts) (λ m. eat kind.Dot >>= λ dots. cond dots (name >>= λ second. pure (record { text = m.text ++ 46 ∷ second.text; at = m.at })) (pure m)) n rest e in
    let called = spelled_ok kind.Name ts first.1 first.0 name_inside first.2 in
    elim (when_ok kind.Dot first.1 (name >>= λ second. pure (record { text = first.0.text ++ 46 ∷ second.text; at = first.0.at })) (pure first.0) n rest dot_inside first.3) [
      | inl dots ↦
          let second = bind_ok (name dots.0) (λ m. pure (record { text = first.0.text ++ 46 ∷ m.text; at = first.0.at })) n rest dots.2 in
          let whole = IsAttributeName.dotted called dots.1 (spelled_ok kind.Name dots.0 second.1 second.0 name_inside second.2) in
          finish (IsAttributeName ts) (record { text = first.0.text ++ 46 ∷ second.0.text; at = first.0.at }) n second.1 rest second.3 whole
      | inr other ↦ finish (IsAttributeName ts) first.0 n first.1 rest other.1 (IsAttributeName.plain called)
    ]

pub attribute_name_is : (ts : List Token) (n : Name) (rest : List Token) → IsAttributeName ts n rest → sees kind.Dot rest ≡ false → attribute_name ts ≡ Ok (n, rest)
unfolding attribute_name
attribute_name_is ts n rest (IsAttributeName.plain s) no_dot =
    ap (λ o. and_then o (λ m. eat kind.Dot >>= λ dots. cond dots (name >>= λ second. pure (record { text = m.text ++ 46 ∷ second.text; at = m.at })) (pure m))) (spelled_is kind.Name ts rest n name_self s)
    ∙ when_no kind.Dot rest (name >>= λ second. pure (record { text = n.text ++ 46 ∷ second.text; at = n.at })) (pure n) no_dot
attribute_name_is ts n rest (IsAttributeName.dotted {us} {vs} {n = first} {m} s d t) no_dot =
    ap (λ o. and_then o (λ k. eat kind.Dot >>= λ dots. cond dots (name >>= λ second. pure (record { text = k.text ++ 46 ∷ second.text; at = k.at })) (pure k))) (spelled_is kind.Name ts us first name_self s)
    ∙ when_yes kind.Dot us vs (name >>= λ second. pure (record { text = first.text ++ 46 ∷ second.text; at = first.at })) (pure first) dot_self d
    ∙ ap (λ o. and_then o (λ second. pure (record { text = first.text ++ 46 ∷ second.text; at = first.at }))) (spelled_is kind.Name vs rest m name_self t)

pub attribute_name_shrinks : (ts : List Token) (n : Name) (rest : List Token) → IsAttributeName ts n rest → length rest < length ts
attribute_name_shrinks ts n rest (IsAttributeName.plain s) = sign_shrinks kind.Name ts rest (spelled_sees kind.Name ts n rest s)
attribute_name_shrinks ts n rest (IsAttributeName.dotted {us} {vs} {n = first} {m} s d t) =
    omega (arith, sign_shrinks kind.Name ts us (spelled_sees kind.Name ts first us s), sign_shrinks kind.Dot us vs d, sign_shrinks kind.Name vs rest (spelled_sees kind.Name vs m rest t))

-- ---- arguments

pub if_any_ok : (ts : List Token) (xs : List Argument) (rest : List Token) → arguments_if_any ts ≡ Ok (xs, rest) → MayHaveArguments ts xs rest
unfolding arguments_if_any
if_any_ok ts xs rest e =
    elim (when_ok kind.OpenParen ts (arguments whole_term) (pure []) xs rest paren_inside e) [
      | inl opens ↦ MayHaveArguments.some opens.1 (arguments_ok whole_term (IsTerm max_depth) (term_value max_depth) opens.0 xs rest opens.2)
      | inr other ↦ finish (MayHaveArguments ts) [] xs ts rest other.1 MayHaveArguments.none
    ]

if_any_is : (ts : List Token) (xs : List Argument) (rest : List Token) → MayHaveArguments ts xs rest → Stops rest → arguments_if_any ts ≡ Ok (xs, rest)
unfolding arguments_if_any
if_any_is ts xs rest MayHaveArguments.none stop = when_no kind.OpenParen ts (arguments whole_term) (pure []) stop.no_arguments
if_any_is ts xs rest (MayHaveArguments.some {us} p d) stop =
    when_yes kind.OpenParen ts us (arguments whole_term) (pure []) paren_self p ∙ arguments_is whole_term (IsTerm max_depth) (term_value max_depth) us xs rest d

if_any_no_dot : (ts : List Token) (xs : List Argument) (rest : List Token) → MayHaveArguments ts xs rest → Stops rest → sees kind.Dot ts ≡ false
unfolding same_kind
if_any_no_dot ts xs rest MayHaveArguments.none stop = stop.no_dot
if_any_no_dot ts xs rest (MayHaveArguments.some {us} p d) stop = sign_other kind.OpenParen kind.Dot ts us refl p

pub if_any_shrinks : (ts : List Token) (xs : List Argument) (rest : List Token) → MayHaveArguments ts xs rest → length rest ≤ length ts
if_any_shrinks ts xs rest MayHaveArguments.none = omega arith
if_any_shrinks ts xs rest (MayHaveArguments.some {us} p d) =
    omega (arith, sign_shrinks kind.OpenParen ts us p, separated_shrinks (IsArgument (IsTerm max_depth)) kind.CloseParen (argument_shrinks whole_term (IsTerm max_depth) (term_value max_depth)) us xs rest d)

-- ---- attributes, by their names

module _ (called : Parser Name) (Called : List Token → Name → List Token → Type 0) (called_ok : (ts : List Token) (n : Name) (us : List Token) → called ts ≡ Ok (n, us) → Called ts n us)
    (called_is : (ts : List Token) (n : Name) (us : List Token) → Called ts n us → sees kind.Dot us ≡ false → called ts ≡ Ok (n, us))
    (called_shrinks : (ts : List Token) (n : Name) (us : List Token) → Called ts n us → length us < length ts) where
  abbrev pub attribute_by : Parser Attribute
  attribute_by = called >>= λ n. arguments_if_any >>= λ given. pure (record { name = n; arguments = given })

  pub attribute_ok : (ts : List Token) (a : Attribute) (rest : List Token) → attribute_by ts ≡ Ok (a, rest) → IsAttribute Called ts a rest
  attribute_ok ts a rest e =
      let first = bind_ok (called ts) (λ n. arguments_if_any >>= λ given. pure (record { name = n; arguments = given })) a rest e in
      let second = bind_ok (arguments_if_any first.1) (λ given. pure (record { name = first.0; arguments = given })) a rest first.3 in
      let whole = IsAttribute.attribute (called_ok ts first.0 first.1 first.2) (if_any_ok first.1 second.0 second.1 second.2) in
      finish (IsAttribute Called ts) (record { name = first.0; arguments = second.0 }) a second.1 rest second.3 whole

  pub attribute_is : (ts : List Token) (a : Attribute) (rest : List Token) → IsAttribute Called ts a rest → Stops rest → attribute_by ts ≡ Ok (a, rest)
  attribute_is ts a rest (IsAttribute.attribute {us} {n} {given} c g) stop =
      ap (λ o. and_then o (λ m. arguments_if_any >>= λ xs. pure (record { name = m; arguments = xs }))) (called_is ts n us c (if_any_no_dot us given rest g stop))
      ∙ ap (λ o. and_then o (λ xs. pure (record { name = n; arguments = xs }))) (if_any_is us given rest g stop)

  pub attribute_shrinks : (ts : List Token) (a : Attribute) (rest : List Token) → IsAttribute Called ts a rest → length rest < length ts
  attribute_shrinks ts a rest (IsAttribute.attribute {us} {n} {given} c g) = omega (arith, called_shrinks ts n us c, if_any_shrinks us given rest g)

pub field_attribute_ok : (ts : List Token) (a : Attribute) (rest : List Token) → attribute ts ≡ Ok (a, rest) → IsAttribute IsAttributeName ts a rest
unfolding attribute
field_attribute_ok = attribute_ok attribute_name IsAttributeName attribute_name_ok attribute_name_is attribute_name_shrinks

pub field_attribute_is : (ts : List Token) (a : Attribute) (rest : List Token) → IsAttribute IsAttributeName ts a rest → Stops rest → attribute ts ≡ Ok (a, rest)
unfolding attribute
field_attribute_is = attribute_is attribute_name IsAttributeName attribute_name_ok attribute_name_is attribute_name_shrinks

pub field_attribute_shrinks : (ts : List Token) (a : Attribute) (rest : List Token) → IsAttribute IsAttributeName ts a rest → length rest < length ts
field_attribute_shrinks = attribute_shrinks attribute_name IsAttributeName attribute_name_ok attribute_name_is attribute_name_shrinks

pub plain_ok : (ts : List Token) (n : Name) (us : List Token) → name ts ≡ Ok (n, us) → Spelled kind.Name ts n us
plain_ok ts n us e = spelled_ok kind.Name ts us n name_inside e

plain_is : (ts : List Token) (n : Name) (us : List Token) → Spelled kind.Name ts n us → sees kind.Dot us ≡ false → name ts ≡ Ok (n, us)
plain_is ts n us s no_dot = spelled_is kind.Name ts us n name_self s

pub plain_shrinks : (ts : List Token) (n : Name) (us : List Token) → Spelled kind.Name ts n us → length us < length ts
plain_shrinks ts n us s = sign_shrinks kind.Name ts us (spelled_sees kind.Name ts n us s)

pub block_attribute_ok : (ts : List Token) (a : Attribute) (rest : List Token) → block_attribute ts ≡ Ok (a, rest) → IsAttribute (Spelled kind.Name) ts a rest
unfolding block_attribute
block_attribute_ok = attribute_ok name (Spelled kind.Name) plain_ok plain_is plain_shrinks

pub block_attribute_is : (ts : List Token) (a : Attribute) (rest : List Token) → IsAttribute (Spelled kind.Name) ts a rest → Stops rest → block_attribute ts ≡ Ok (a, rest)
unfolding block_attribute
block_attribute_is = attribute_is name (Spelled kind.Name) plain_ok plain_is plain_shrinks

pub block_attribute_shrinks : (ts : List Token) (a : Attribute) (rest : List Token) → IsAttribute (Spelled kind.Name) ts a rest → length rest < length ts
block_attribute_shrinks = attribute_shrinks name (Spelled kind.Name) plain_ok plain_is plain_shrinks

-- ---- runs of attributes

pub attributes_from_ok : (n : ℕ) (found : List Attribute) (ts : List Token) (xs : List Attribute) (rest : List Token) → attributes_from n found ts ≡ Ok (xs, rest)
    → (ys : List Attribute) × (xs ≡ found ++ ys) × AreAttributes ts ys rest
unfolding attributes_from
attributes_from_ok zero found ts xs rest e =
    ([], sym (ok_value found xs ts rest e) ∙ sym (append-nil found), subst (λ zs. AreAttributes ts [] zs) (ok_rest found xs ts rest e) AreAttributes.none)
attributes_from_ok (suc n) found ts xs rest e =
    elim (when_ok kind.At ts (attribute >>= λ a. attributes_from n (found ++ a ∷ [])) (pure found) xs rest at_inside e) [
      | inl at ↦
          let first = bind_ok (attribute at.0) (λ a. attributes_from n (found ++ a ∷ [])) xs rest at.2 in
          let later = attributes_from_ok n (found ++ first.0 ∷ []) first.1 xs rest first.3 in
          (first.0 ∷ later.0, later.1 ∙ append_assoc found (first.0 ∷ []) later.0, AreAttributes.more at.1 (field_attribute_ok at.0 first.0 first.1 first.2) later.2)
      | inr other ↦
          ([], sym (ok_value found xs ts rest other.1) ∙ sym (append-nil found), subst (λ zs. AreAttributes ts [] zs) (ok_rest found xs ts rest other.1) AreAttributes.none)
    ]

pub attributes_ok : (ts : List Token) (xs : List Attribute) (rest : List Token) → attributes ts ≡ Ok (xs, rest) → AreAttributes ts xs rest
unfolding attributes
attributes_ok ts xs rest e = let found = attributes_from_ok (length ts) [] ts xs rest e in subst (λ ys. AreAttributes ts ys rest) (sym found.1) found.2

pub attributes_stop : (ts : List Token) (xs : List Attribute) (rest : List Token) → AreAttributes ts xs rest → Stops rest → Stops ts
attributes_stop ts xs rest AreAttributes.none stop = stop
attributes_stop ts xs rest (AreAttributes.more {us} s a d) stop = stops kind.At ts us stop_at s

-- what attributes don't begin with, if what follows them doesn't
pub attributes_begin : (k : Kind) (ts : List Token) (xs : List Attribute) (rest : List Token) → same_kind kind.At k ≡ false → AreAttributes ts xs rest → sees k rest ≡ false → sees k ts ≡ false
attributes_begin k ts xs rest other AreAttributes.none none = none
attributes_begin k ts xs rest other (AreAttributes.more {us} s a d) none = sign_other kind.At k ts us other s

pub attributes_shrink : (ts : List Token) (xs : List Attribute) (rest : List Token) → AreAttributes ts xs rest → length rest ≤ length ts
attributes_shrink ts xs rest AreAttributes.none = omega arith
attributes_shrink ts xs rest (AreAttributes.more {us} {vs} {a} {as' = ys} s h d) =
    omega (arith, sign_shrinks kind.At ts us s, field_attribute_shrinks us a vs h, attributes_shrink vs ys rest d)

attributes_from_is : (n : ℕ) (found : List Attribute) (ts : List Token) (xs : List Attribute) (rest : List Token) → AreAttributes ts xs rest → Stops rest → sees kind.At rest ≡ false → 0 < length rest → length ts ≤ n
    → attributes_from n found ts ≡ Ok (found ++ xs, rest)
unfolding attributes_from
attributes_from_is zero found ts xs rest d stop no_at some small = absurd (omega (arith, attributes_shrink ts xs rest d))
attributes_from_is (suc n) found ts xs rest AreAttributes.none stop no_at some small =
    when_no kind.At ts (attribute >>= λ a. attributes_from n (found ++ a ∷ [])) (pure found) no_at ∙ ap (λ zs. Ok (zs, rest)) (sym (append-nil found))
attributes_from_is (suc n) found ts xs rest (AreAttributes.more {us} {vs} {a} {as' = ys} s h d) stop no_at some small =
    when_yes kind.At ts us (attribute >>= λ x. attributes_from n (found ++ x ∷ [])) (pure found) at_self s
    ∙ ap (λ o. and_then o (λ x. attributes_from n (found ++ x ∷ []))) (field_attribute_is us a vs h (attributes_stop vs ys rest d stop))
    ∙ attributes_from_is n (found ++ a ∷ []) vs ys rest d stop no_at some (omega (arith, sign_shrinks kind.At ts us s, field_attribute_shrinks us a vs h))
    ∙ ap (λ zs. Ok (zs, rest)) (append_assoc found (a ∷ []) ys)

pub attributes_is : (ts : List Token) (xs : List Attribute) (rest : List Token) → AreAttributes ts xs rest → Stops rest → sees kind.At rest ≡ false → 0 < length rest → attributes ts ≡ Ok (xs, rest)
unfolding attributes
attributes_is ts xs rest d stop no_at some = attributes_from_is (length ts) [] ts xs rest d stop no_at some (omega arith)
