-- Attributes: what is refused stops so, and what stops is refused so.
use Rattle.std.proofs.Common.{◌≡◌, ℕ, zero, suc, ◌<◌, ◌≤◌, false, cond, List, [], ◌∷◌, ◌++◌, length, Ok, Err, ◌⊎◌, inl, inr, refl, sym, ap, subst, ◌∙◌, arith, append_assoc}
use Rattle.std.proofs.lemmas.List.{append-nil}
use Rattle.psl_text.specs.declared.fault.TextFault.{TextFault}
use Rattle.psl_text.specs.declared.token.Kind.TheVariants as kind
use Rattle.psl_text.specs.declared.token.Token.{Token}
use Rattle.psl_text.specs.declared.tree.Name.{Name}
use Rattle.psl_text.specs.declared.tree.Argument.{Argument}
use Rattle.psl_text.specs.declared.tree.Attribute.{Attribute}
use Rattle.psl_text.specs.Parser.{Parser, ◌>>=◌, pure, sees, same_kind, eat, name, refusal}
use Rattle.psl_text.specs.Grammar.{max_depth, whole_term, arguments, attribute_name, arguments_if_any, attribute, block_attribute, attributes_from, attributes}
use Rattle.psl_text.specs.Derives.{Sign, Spelled, IsArgument, IsTerm, IsAttributeName, MayHaveArguments, IsAttribute, AreAttributes}
use Rattle.psl_text.specs.Stops.{Misses, SeparatedStops, ArgumentStops, TermStops, AttributeNameStops, AttributeStops, AttributesStop}
use Rattle.psl_text.proofs.Steps.{bind_ok, ok_rest, when_yes, when_no, spelled_ok, spelled_is, spelled_sees, sign_sees, sign_other, sign_shrinks}
use Rattle.psl_text.proofs.TermRules.{stops, arguments_ok, arguments_is, argument_shrinks, name_inside, name_self, paren_inside, paren_self}
use Rattle.psl_text.proofs.LevelRules.{term_value, separated_shrinks}
use Rattle.psl_text.proofs.AttributeRules.{dot_inside, dot_self, at_inside, at_self, stop_at, attribute_name_ok, attribute_name_is, attribute_name_shrinks, if_any_ok, if_any_shrinks, field_attribute_ok, field_attribute_is, field_attribute_shrinks, plain_ok, plain_shrinks, attributes_from_ok, attributes_shrink}
use Rattle.psl_text.proofs.FaultSteps.{ok_not_err, bind_err, bind_stops, bind_goes, when_split, next_is, spelled_err, spelled_misses, sign_spelled, Refuses, Further, Reaches, Anything}
use Rattle.psl_text.proofs.FaultTerms.{arguments_refuse}
use Rattle.psl_text.proofs.FaultLevels.{term_judges}

-- ---- names

-- a name behind a dot
abbrev pub dotted : Name → Parser Name
dotted m = name >>= λ second. pure (record { text = m.text ++ 46 ∷ second.text; at = m.at })

abbrev pub behind_name : Name → Parser Name
behind_name m = eat kind.Dot >>= λ dots. cond dots (dotted m) (pure m)

-- neither arguments nor an attribute begins here
pub record Apart (ts : List Token) : Type 0 where
  pub no_paren : sees kind.OpenParen ts ≡ false
  pub no_at : sees kind.At ts ≡ false

dot_apart : (ts us : List Token) → Sign kind.Dot ts us → Apart ts
unfolding same_kind
dot_apart ts us s = record { no_paren = sign_other kind.Dot kind.OpenParen ts us refl s; no_at = sign_other kind.Dot kind.At ts us refl s }

pub attribute_name_found : (ts : List Token) (e : TextFault) → attribute_name ts ≡ Err e → (us : List Token) × AttributeNameStops ts us × (e ≡ refusal us)
unfolding attribute_name
attribute_name_found ts e h = elim (bind_err (name ts) behind_name e h) [
  | inl bad ↦ let found = spelled_err kind.Name ts e bad in (found.0, AttributeNameStops.name found.1, found.2)
  | inr first ↦ elim (when_split kind.Dot first.1 (dotted first.0) (pure first.0) (Err e) dot_inside first.3) [
    | inl dots ↦ elim (bind_err (name dots.0) (λ m. pure (record { text = first.0.text ++ 46 ∷ m.text; at = first.0.at })) e dots.2) [
      | inl bad ↦
          let found = spelled_err kind.Name dots.0 e bad in
          (found.0, AttributeNameStops.dotted (spelled_sees kind.Name ts first.0 first.1 (spelled_ok kind.Name ts first.1 first.0 name_inside first.2)) dots.1 found.1, found.2)
      | inr second ↦
          absurd (ok_not_err (pure (record { text = first.0.text ++ 46 ∷ second.0.text; at = first.0.at }) second.1) (record { text = first.0.text ++ 46 ∷ second.0.text; at = first.0.at }) second.1 e refl second.3)
    ]
    | inr other ↦ absurd (ok_not_err (pure first.0 first.1) first.0 first.1 e refl other.1)
  ]
]

dot_goes_on : (ts us vs : List Token) (n : Name) → Spelled kind.Name ts n us → Sign kind.Dot us vs → attribute_name ts ≡ dotted n vs
unfolding attribute_name
dot_goes_on ts us vs n s d = bind_goes (name ts) behind_name n us (spelled_is kind.Name ts us n name_self s) ∙ when_yes kind.Dot us vs (dotted n) (pure n) dot_self d

pub attribute_name_stops : (ts us : List Token) → AttributeNameStops ts us → attribute_name ts ≡ Err (refusal us)
unfolding attribute_name
attribute_name_stops ts us (AttributeNameStops.name m) = bind_stops (name ts) behind_name (refusal us) (spelled_misses kind.Name ts us m)
attribute_name_stops ts rest (AttributeNameStops.dotted {us} {vs} s d m) =
    let n = sign_spelled kind.Name ts us s in
    dot_goes_on ts us vs n.0 n.1 d ∙ bind_stops (name vs) (λ second. pure (record { text = n.0.text ++ 46 ∷ second.text; at = n.0.at })) (refusal rest) (spelled_misses kind.Name vs rest m)

pub attribute_name_reaches : Reaches attribute_name Apart IsAttributeName
attribute_name_reaches ts n rest (IsAttributeName.plain s) = elim (next_is kind.Dot rest dot_inside) [
  | inr none ↦ inl (attribute_name_is ts n rest (IsAttributeName.plain s) none)
  | inl dots ↦ inr (record {
    left = dot_apart rest dots.0 dots.1;
    shorter = λ x us h.
        let step = bind_ok (name dots.0) (λ m. pure (record { text = n.text ++ 46 ∷ m.text; at = n.at })) x us (sym (dot_goes_on ts rest dots.0 n s dots.1) ∙ h) in
        let same : step.1 ≡ us = ok_rest (record { text = n.text ++ 46 ∷ step.0.text; at = n.at }) x step.1 us step.3 in
        let second = sign_shrinks kind.Name dots.0 step.1 (spelled_sees kind.Name dots.0 step.0 step.1 (spelled_ok kind.Name dots.0 step.1 step.0 name_inside step.2)) in
        let below : length step.1 < length rest = omega (arith, second, sign_shrinks kind.Dot rest dots.0 dots.1) in
        subst (λ zs. length zs < length rest) same below;
  })
]
attribute_name_reaches ts n rest (IsAttributeName.dotted {us} {vs} {n = first} {m} s d t) =
    inl (dot_goes_on ts us vs first s d ∙ bind_goes (name vs) (λ second. pure (record { text = first.text ++ 46 ∷ second.text; at = first.at })) m rest (spelled_is kind.Name vs rest m name_self t))

pub plain_refuses : Refuses name (Misses kind.Name)
plain_refuses = record { found = λ ts e h. spelled_err kind.Name ts e h; stops = λ ts us m. spelled_misses kind.Name ts us m }

pub plain_reaches : Reaches name Apart (Spelled kind.Name)
plain_reaches ts n rest s = inl (spelled_is kind.Name ts rest n name_self s)

-- ---- arguments

abbrev pub GivenStops : List Token → List Token → Type 0
GivenStops = SeparatedStops (IsArgument (IsTerm max_depth)) (ArgumentStops (TermStops max_depth)) kind.CloseParen

given_refuse : Refuses (arguments whole_term) GivenStops
given_refuse = arguments_refuse whole_term (IsTerm max_depth) (TermStops max_depth) (term_value max_depth) (term_judges max_depth)

if_any_found : (ts : List Token) (e : TextFault) → arguments_if_any ts ≡ Err e → (us : List Token) × Sign kind.OpenParen ts us × ((vs : List Token) × GivenStops us vs × (e ≡ refusal vs))
unfolding arguments_if_any
if_any_found ts e h = elim (when_split kind.OpenParen ts (arguments whole_term) (pure []) (Err e) paren_inside h) [
  | inl opens ↦ (opens.0, opens.1, given_refuse.found opens.0 e opens.2)
  | inr other ↦ absurd (ok_not_err (pure {A = List Argument} [] ts) [] ts e refl other.1)
]

paren_opens : (ts us : List Token) → Sign kind.OpenParen ts us → arguments_if_any ts ≡ arguments whole_term us
unfolding arguments_if_any
paren_opens ts us p = when_yes kind.OpenParen ts us (arguments whole_term) (pure []) paren_self p

if_any_reaches : Reaches arguments_if_any (λ ts. sees kind.At ts ≡ false) MayHaveArguments
unfolding arguments_if_any same_kind
if_any_reaches ts xs rest MayHaveArguments.none = elim (next_is kind.OpenParen ts paren_inside) [
  | inr none ↦ inl (when_no kind.OpenParen ts (arguments whole_term) (pure []) none)
  | inl opens ↦ inr (record {
    left = sign_other kind.OpenParen kind.At ts opens.0 refl opens.1;
    shorter = λ ys us h.
        let given = arguments_ok whole_term (IsTerm max_depth) (term_value max_depth) opens.0 ys us (sym (paren_opens ts opens.0 opens.1) ∙ h) in
        omega (arith, sign_shrinks kind.OpenParen ts opens.0 opens.1, separated_shrinks (IsArgument (IsTerm max_depth)) kind.CloseParen (argument_shrinks whole_term (IsTerm max_depth) (term_value max_depth)) opens.0 ys us given);
  })
]
if_any_reaches ts xs rest (MayHaveArguments.some {us} p d) = inl (paren_opens ts us p ∙ arguments_is whole_term (IsTerm max_depth) (term_value max_depth) us xs rest d)

no_arguments : (ts : List Token) (xs : List Argument) (rest : List Token) → MayHaveArguments ts xs rest → sees kind.OpenParen ts ≡ false → ts ≡ rest
no_arguments ts xs rest MayHaveArguments.none e = refl
no_arguments ts xs rest (MayHaveArguments.some {us} p d) e = let seen = (sign_sees kind.OpenParen ts us paren_self p).0 in absurd (cc)

-- ---- attributes, by their names

module _ (called : Parser Name) (Called : List Token → Name → List Token → Type 0) (CalledStops : List Token → List Token → Type 0) (called_ok : (ts : List Token) (n : Name) (us : List Token) → called ts ≡ Ok (n, us) → Called ts n us)
    (called_refuses : Refuses called CalledStops) (called_reaches : Reaches called Apart Called) (called_shrinks : (ts : List Token) (n : Name) (us : List Token) → Called ts n us → length us < length ts) where
  abbrev pub behind_called : Name → Parser Attribute
  behind_called n = arguments_if_any >>= λ given. pure (record { name = n; arguments = given })

  abbrev pub attribute_by : Parser Attribute
  attribute_by = called >>= behind_called

  attribute_found : (ts : List Token) (e : TextFault) → attribute_by ts ≡ Err e → (us : List Token) × AttributeStops Called CalledStops ts us × (e ≡ refusal us)
  attribute_found ts e h = elim (bind_err (called ts) behind_called e h) [
    | inl bad ↦ let found = called_refuses.found ts e bad in (found.0, AttributeStops.name found.1, found.2)
    | inr first ↦ elim (bind_err (arguments_if_any first.1) (λ given. pure (record { name = first.0; arguments = given })) e first.3) [
      | inl bad ↦ let found = if_any_found first.1 e bad in (found.2.0, AttributeStops.arguments (called_ok ts first.0 first.1 first.2) found.1 found.2.1, found.2.2)
      | inr second ↦ absurd (ok_not_err (pure (record { name = first.0; arguments = second.0 }) second.1) (record { name = first.0; arguments = second.0 }) second.1 e refl second.3)
    ]
  ]

  -- a name before an opening parenthesis
  pub called_before : (ts us vs : List Token) (n : Name) → Called ts n us → Sign kind.OpenParen us vs → called ts ≡ Ok (n, us)
  called_before ts us vs n c p = elim (called_reaches ts n us c) [
    | inl e ↦ e
    | inr f ↦ let seen = (sign_sees kind.OpenParen us vs paren_self p).0 in let other = f.left.no_paren in absurd (cc)
  ]

  attribute_stops : (ts us : List Token) → AttributeStops Called CalledStops ts us → attribute_by ts ≡ Err (refusal us)
  attribute_stops ts us (AttributeStops.name s) = bind_stops (called ts) behind_called (refusal us) (called_refuses.stops ts us s)
  attribute_stops ts rest (AttributeStops.arguments {us} {vs} {n} c p d) =
      bind_goes (called ts) behind_called n us (called_before ts us vs n c p)
      ∙ bind_stops (arguments_if_any us) (λ given. pure (record { name = n; arguments = given })) (refusal rest) (paren_opens us vs p ∙ given_refuse.stops vs rest d)

  pub attribute_refuses : Refuses attribute_by (AttributeStops Called CalledStops)
  attribute_refuses = record { found = attribute_found; stops = attribute_stops }

  pub attribute_reaches : Reaches attribute_by (λ ts. sees kind.At ts ≡ false) (IsAttribute Called)
  attribute_reaches ts a rest (IsAttribute.attribute {us} {n} {given} c g) = elim (called_reaches ts n us c) [
    | inl e ↦ elim (if_any_reaches us given rest g) [
      | inl k ↦ inl (bind_goes (called ts) behind_called n us e ∙ bind_goes (arguments_if_any us) (λ xs. pure (record { name = n; arguments = xs })) given rest k)
      | inr f ↦ inr (record {
        left = f.left;
        shorter = λ x zs h.
            let step = bind_ok (arguments_if_any us) (λ xs. pure (record { name = n; arguments = xs })) x zs (sym (bind_goes (called ts) behind_called n us e) ∙ h) in
            let same : step.1 ≡ zs = ok_rest (record { name = n; arguments = step.0 }) x step.1 zs step.3 in
            subst (λ ws. length ws < length rest) same (f.shorter step.0 step.1 step.2);
      })
    ]
    | inr f ↦
        let none : us ≡ rest = no_arguments us given rest g f.left.no_paren in
        inr (record {
          left = subst (λ ws. sees kind.At ws ≡ false) none f.left.no_at;
          shorter = λ x zs h.
              let first = bind_ok (called ts) behind_called x zs h in
              let second = bind_ok (arguments_if_any first.1) (λ xs. pure (record { name = first.0; arguments = xs })) x zs first.3 in
              let same : second.1 ≡ zs = ok_rest (record { name = first.0; arguments = second.0 }) x second.1 zs second.3 in
              let shrinks = if_any_shrinks first.1 second.0 second.1 (if_any_ok first.1 second.0 second.1 second.2) in
              let below : length second.1 < length us = omega (arith, shrinks, f.shorter first.0 first.1 first.2) in
              subst (λ ws. length zs < length ws) none (subst (λ ws. length ws < length us) same below);
        })
  ]

abbrev pub FieldAttributeStops : List Token → List Token → Type 0
FieldAttributeStops = AttributeStops IsAttributeName AttributeNameStops

pub field_attribute_refuses : Refuses attribute FieldAttributeStops
unfolding attribute
field_attribute_refuses = attribute_refuses attribute_name IsAttributeName AttributeNameStops attribute_name_ok (record { found = attribute_name_found; stops = attribute_name_stops }) attribute_name_reaches attribute_name_shrinks

pub field_attribute_reaches : Reaches attribute (λ ts. sees kind.At ts ≡ false) (IsAttribute IsAttributeName)
unfolding attribute
field_attribute_reaches = attribute_reaches attribute_name IsAttributeName AttributeNameStops attribute_name_ok (record { found = attribute_name_found; stops = attribute_name_stops }) attribute_name_reaches attribute_name_shrinks

pub block_attribute_refuses : Refuses block_attribute (AttributeStops (Spelled kind.Name) (Misses kind.Name))
unfolding block_attribute
block_attribute_refuses = attribute_refuses name (Spelled kind.Name) (Misses kind.Name) plain_ok plain_refuses plain_reaches plain_shrinks

pub block_attribute_reaches : Reaches block_attribute (λ ts. sees kind.At ts ≡ false) (IsAttribute (Spelled kind.Name))
unfolding block_attribute
block_attribute_reaches = attribute_reaches name (Spelled kind.Name) (Misses kind.Name) plain_ok plain_refuses plain_reaches plain_shrinks

-- ---- runs of attributes

abbrev pub each : ℕ → List Attribute → Parser (List Attribute)
each n found = attribute >>= λ a. attributes_from n (found ++ a ∷ [])

attributes_from_found : (n : ℕ) (found : List Attribute) (ts : List Token) (e : TextFault) → attributes_from n found ts ≡ Err e → (us : List Token) × AttributesStop ts us × (e ≡ refusal us)
unfolding attributes_from
attributes_from_found zero found ts e h = absurd (ok_not_err (pure found ts) found ts e refl h)
attributes_from_found (suc n) found ts e h = elim (when_split kind.At ts (each n found) (pure found) (Err e) at_inside h) [
  | inl at ↦ elim (bind_err (attribute at.0) (λ a. attributes_from n (found ++ a ∷ [])) e at.2) [
    | inl bad ↦ let s = field_attribute_refuses.found at.0 e bad in (s.0, AttributesStop.here at.1 s.1, s.2)
    | inr first ↦
        let later = attributes_from_found n (found ++ first.0 ∷ []) first.1 e first.3 in
        (later.0, AttributesStop.later at.1 (field_attribute_ok at.0 first.0 first.1 first.2) later.1, later.2)
  ]
  | inr other ↦ absurd (ok_not_err (pure found ts) found ts e refl other.1)
]

-- the sign that attributes begin with where they stop
pub stop_begins : (ts us : List Token) → AttributesStop ts us → (vs : List Token) × Sign kind.At ts vs
stop_begins ts us (AttributesStop.here {us = vs} s a) = (vs, s)
stop_begins ts us (AttributesStop.later {us = vs} s h d) = (vs, s)

attributes_from_stops : (n : ℕ) (found : List Attribute) (ts us : List Token) → length ts ≤ n → AttributesStop ts us → attributes_from n found ts ≡ Err (refusal us)
unfolding attributes_from
attributes_from_stops zero found ts us small d = let s = stop_begins ts us d in absurd (omega (arith, sign_shrinks kind.At ts s.0 s.1))
attributes_from_stops (suc n) found ts rest small (AttributesStop.here {us} s a) =
    when_yes kind.At ts us (each n found) (pure found) at_self s ∙ bind_stops (attribute us) (λ x. attributes_from n (found ++ x ∷ [])) (refusal rest) (field_attribute_refuses.stops us rest a)
attributes_from_stops (suc n) found ts rest small (AttributesStop.later {us} {vs} {a} s h d) =
    let begins = stop_begins vs rest d in
    when_yes kind.At ts us (each n found) (pure found) at_self s
    ∙ bind_goes (attribute us) (λ x. attributes_from n (found ++ x ∷ [])) a vs (field_attribute_is us a vs h (stops kind.At vs begins.0 stop_at begins.1))
    ∙ attributes_from_stops n (found ++ a ∷ []) vs rest (omega (arith, sign_shrinks kind.At ts us s, field_attribute_shrinks us a vs h)) d

pub attributes_refuse : Refuses attributes AttributesStop
unfolding attributes
attributes_refuse = record { found = λ ts e h. attributes_from_found (length ts) [] ts e h; stops = λ ts us d. attributes_from_stops (length ts) [] ts us (omega arith) d }

pub no_attributes : (ts : List Token) (xs : List Attribute) (rest : List Token) → AreAttributes ts xs rest → sees kind.At ts ≡ false → ts ≡ rest
no_attributes ts xs rest AreAttributes.none e = refl
no_attributes ts xs rest (AreAttributes.more {us} s h d) e = let seen = (sign_sees kind.At ts us at_self s).0 in absurd (cc)

-- what is read behind an attribute is no longer
run_shrinks : (n : ℕ) (found : List Attribute) (ts : List Token) (xs : List Attribute) (rest : List Token) → attributes_from n found ts ≡ Ok (xs, rest) → length rest ≤ length ts
run_shrinks n found ts xs rest h = let run = attributes_from_ok n found ts xs rest h in attributes_shrink ts run.0 rest run.2

attributes_from_reach : (n : ℕ) (found : List Attribute) (ts : List Token) (xs : List Attribute) (rest : List Token) → length ts ≤ n → AreAttributes ts xs rest
    → (attributes_from n found ts ≡ Ok (found ++ xs, rest)) ⊎ Further (attributes_from n found) Anything ts rest
unfolding attributes_from
attributes_from_reach zero found ts xs rest small AreAttributes.none = inl (ap (λ zs. Ok (zs, rest)) (sym (append-nil found)))
attributes_from_reach zero found ts xs rest small (AreAttributes.more {us} s h d) = absurd (omega (arith, sign_shrinks kind.At ts us s))
attributes_from_reach (suc n) found ts xs rest small AreAttributes.none = elim (next_is kind.At ts at_inside) [
  | inr none ↦ inl (when_no kind.At ts (each n found) (pure found) none ∙ ap (λ zs. Ok (zs, rest)) (sym (append-nil found)))
  | inl at ↦ inr (record {
    left = tt;
    shorter = λ ys us h.
        let first = bind_ok (attribute at.0) (λ a. attributes_from n (found ++ a ∷ [])) ys us (sym (when_yes kind.At ts at.0 (each n found) (pure found) at_self at.1) ∙ h) in
        omega (arith, sign_shrinks kind.At ts at.0 at.1, field_attribute_shrinks at.0 first.0 first.1 (field_attribute_ok at.0 first.0 first.1 first.2), run_shrinks n (found ++ first.0 ∷ []) first.1 ys us first.3);
  })
]
attributes_from_reach (suc n) found ts xs rest small (AreAttributes.more {us} {vs} {a} {as' = ys} s h d) =
    let goes = when_yes kind.At ts us (each n found) (pure found) at_self s in
    elim (field_attribute_reaches us a vs h) [
      | inl e ↦
          let on = goes ∙ bind_goes (attribute us) (λ x. attributes_from n (found ++ x ∷ [])) a vs e in
          elim (attributes_from_reach n (found ++ a ∷ []) vs ys rest (omega (arith, sign_shrinks kind.At ts us s, field_attribute_shrinks us a vs h)) d) [
            | inl k ↦ inl (on ∙ k ∙ ap (λ zs. Ok (zs, rest)) (append_assoc found (a ∷ []) ys))
            | inr f ↦ inr (record { left = tt; shorter = λ zs ws k. f.shorter zs ws (sym on ∙ k) })
          ]
      | inr f ↦
          let none : vs ≡ rest = no_attributes vs ys rest d f.left in
          inr (record {
            left = tt;
            shorter = λ zs ws k.
                let first = bind_ok (attribute us) (λ x. attributes_from n (found ++ x ∷ [])) zs ws (sym goes ∙ k) in
                let below : length ws < length vs = omega (arith, f.shorter first.0 first.1 first.2, run_shrinks n (found ++ first.0 ∷ []) first.1 zs ws first.3) in
                subst (λ qs. length ws < length qs) none below;
          })
    ]

pub attributes_reach : Reaches attributes Anything AreAttributes
unfolding attributes
attributes_reach ts xs rest d = elim (attributes_from_reach (length ts) [] ts xs rest (omega arith) d) [
  | inl e ↦ inl e
  | inr f ↦ inr (record { left = tt; shorter = λ ys us h. f.shorter ys us h })
]
