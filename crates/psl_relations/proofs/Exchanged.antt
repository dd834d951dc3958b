-- A set of the fields that are referred to, in place of a look at each foreign key.
use Rattle.std.proofs.Common.{◌≡◌, ℕ, ◌+◌, ◌<◌, Bool, true, false, cond, ◌&&◌, ◌||◌, List, [], ◌∷◌, ◌++◌, map, length, drop, get_or, refl, sym, ap, ◌∙◌, true≢false, Bor}
use Rattle.std.proofs.lemmas.List.{drop_more}
use Rattle.std.proofs.lemmas.List.Folds.{list_any-append}
use Rattle.std.proofs.lemmas.Slice.Eq.{bytes_eq-Decides}
use Rattle.std.specs.Prelude.{bytes_eq}
use Rattle.std.specs.List.{list_any}
use Rattle.psl_rules.specs.Parts.{Spelling}
use Rattle.qe_text.specs.Lists.{is_among}
use Rattle.psl_rules.specs.Relations.{End, leads_to, other_names, own_names}
use Rattle.psl_rules.specs.Updates.{goes_on}
use Rattle.psl_relations.specs.Referred.{Named, refers_to, has_field}

-- ---- tests

or_none : (b : Bool) → (b || false) ≡ b
or_none true = refl
or_none false = refl

or_all : (b : Bool) → (b || true) ≡ true
or_all true = refl
or_all false = refl

or_assoc : (a b c : Bool) → ((a || b) || c) ≡ (a || (b || c))
or_assoc true b c = refl
or_assoc false b c = refl

or_swap : (a b c d : Bool) → ((a || b) || (c || d)) ≡ ((a || c) || (b || d))
or_swap true b c d = refl
or_swap false true true d = refl
or_swap false true false d = refl
or_swap false false c d = refl

-- ---- two searches, the one within the other

none_any : {A : Type 0} (xs : List A) → list_any (λ x. false) xs ≡ false
none_any [] = refl
none_any (x ∷ xs) = none_any xs

any_or : {A : Type 0} (p q : A → Bool) (xs : List A) → list_any (λ x. p x || q x) xs ≡ (list_any p xs || list_any q xs)
any_or p q [] = refl
any_or p q (x ∷ xs) = ap (λ b. (p x || q x) || b) (any_or p q xs) ∙ or_swap (p x) (q x) (list_any p xs) (list_any q xs)

exchanged : {A B : Type 0} (f : A → B → Bool) (xs : List A) (ys : List B) → list_any (λ x. list_any (f x) ys) xs ≡ list_any (λ y. list_any (λ x. f x y) xs) ys
exchanged f [] ys = sym (none_any ys)
exchanged f (x ∷ xs) ys = ap (λ b. list_any (f x) ys || b) (exchanged f xs ys) ∙ sym (any_or (f x) (λ y. list_any (λ x. f x y) xs) ys)

both : {A : Type 0} (b : Bool) (p : A → Bool) (xs : List A) → list_any (λ x. b && p x) xs ≡ (b && list_any p xs)
both true p xs = refl
both false p xs = none_any xs

-- a foreign key goes on where a field of its own is referred to
pub going_on : (end : End) (holders : List End) → list_any (λ name. list_any (refers_to end.model.name.text name) holders) (own_names end) ≡ list_any (goes_on end) holders
going_on end holders =
    let at_holder : (λ (other : End). list_any (λ name. refers_to end.model.name.text name other) (own_names end)) ≡ goes_on end = λ i other. both (leads_to other end.model) (λ name. is_among name (other_names other)) (own_names end) i in
    exchanged (λ name. refers_to end.model.name.text name) (own_names end) holders ∙ ap (λ test. list_any test holders) at_holder

-- ---- fields that are put into the set

any_kept : {A : Type 0} (p q : A → Bool) (xs : List A) → ((x : A) → p x ≡ true → q x ≡ true) → list_any p xs ≡ true → list_any q xs ≡ true
any_kept p q [] less h = h
any_kept p q (x ∷ xs) less h = by_test (p x) refl h (any_kept p q xs less)
  where
    by_test : (b : Bool) → p x ≡ b → (p x || list_any p xs) ≡ true → (list_any p xs ≡ true → list_any q xs ≡ true) → (q x || list_any q xs) ≡ true
    by_test true is h further = ap (λ b. b || list_any q xs) (less x is)
    by_test false is h further = ap (λ b. q x || b) (further (sym (ap (λ b. b || list_any p xs) is) ∙ h)) ∙ or_all (q x)

-- a test that passes equal keys alike, after a key is inserted
inserted : {A : Type 0} (same : A → A → Bool) (p : A → Bool) (keys : List A) (key : A) (seen : Bool) → ((one : A) → same key one ≡ true → p key ≡ true → p one ≡ true) → list_any (same key) keys ≡ seen
    → list_any p (cond seen keys (keys ++ key ∷ [])) ≡ (list_any p keys || p key)
inserted same p keys key false alike is = list_any-append p keys (key ∷ []) ∙ ap (λ b. list_any p keys || b) (or_none (p key))
inserted same p keys key true alike is = by_test (p key) refl
  where
    by_test : (b : Bool) → p key ≡ b → list_any p keys ≡ (list_any p keys || p key)
    by_test false off = sym (ap (λ b. list_any p keys || b) off ∙ or_none (list_any p keys))
    by_test true on = any_kept (same key) p keys (λ one h. alike one h on) is ∙ sym (ap (λ b. list_any p keys || b) on ∙ or_all (list_any p keys))

abbrev is_field : Spelling → Spelling → Named → Bool
is_field model name key = bytes_eq key.0.now model && bytes_eq name key.1.now

abbrev pub same_field : Named → Named → Bool
same_field one other = bytes_eq one.0.now other.0.now && bytes_eq one.1.now other.1.now

and_parts : (a b : Bool) → (a && b) ≡ true → (a ≡ true) × (b ≡ true)
and_parts true b h = (refl, h)
and_parts false b h = absurd (true≢false (sym h))

alike : (model name : Spelling) (key one : Named) → same_field key one ≡ true → is_field model name key ≡ true → is_field model name one ≡ true
alike model name key one same there =
    let parts = and_parts (bytes_eq key.0.now one.0.now) (bytes_eq key.1.now one.1.now) same in
    ap (λ text. bytes_eq text model && bytes_eq name one.1.now) (sym ((bytes_eq-Decides key.0.now one.0.now).0 parts.0)) ∙ ap (λ text. bytes_eq key.0.now model && bytes_eq name text) (sym ((bytes_eq-Decides key.1.now one.1.now).0 parts.1))
    ∙ there

shuffle : (h a b r : Bool) → ((h || (a && b)) || (a && r)) ≡ (h || (a && (b || r)))
shuffle true a b r = refl
shuffle false true b r = refl
shuffle false false b r = refl

-- the next name, of these names of fields of a model
pub turn_name : (names : List (Bor Spelling)) (i : ℕ) (keys new : List Named) (key : Named) (of model name : Spelling) (whole : Bool) → i < length names → key.1 ≡ get_or names i key.1 → key.0.now ≡ of
    → new ≡ cond (list_any (same_field key) keys) keys (keys ++ key ∷ []) → (has_field keys model name || (bytes_eq of model && is_among name (map (λ name. name.now) (drop i names)))) ≡ whole
    → (has_field new model name || (bytes_eq of model && is_among name (map (λ name. name.now) (drop (i + 1) names)))) ≡ whole
turn_name names i keys new key of model name whole within is model_is new_is before =
    let rest = is_among name (map (λ (name : Bor Spelling). name.now) (drop (i + 1) names)) in
    ap (λ keys. has_field keys model name || (bytes_eq of model && rest)) new_is
    ∙ ap (λ b. b || (bytes_eq of model && rest)) (inserted same_field (is_field model name) keys key (list_any (same_field key) keys) (alike model name key) refl)
    ∙ ap (λ text. (has_field keys model name || (bytes_eq text model && bytes_eq name key.1.now)) || (bytes_eq of model && rest)) model_is
    ∙ shuffle (has_field keys model name) (bytes_eq of model) (bytes_eq name key.1.now) rest
    ∙ ap (λ (one : Bor Spelling). has_field keys model name || (bytes_eq of model && (bytes_eq name one.now || rest))) is
    ∙ ap (λ names. has_field keys model name || (bytes_eq of model && is_among name (map (λ (name : Bor Spelling). name.now) names))) (sym (drop_more names i key.1 within))
    ∙ before
