-- Texts of which each stands once, seen one after another.
use Rattle.std.proofs.Common.{◌≡◌, ℕ, suc, ◌+◌, ◌<◌, ◌≤◌, ◌==◌, Bool, true, false, cond, not, ◌||◌, List, [], ◌∷◌, ◌++◌, map, length, take, drop, get_or, refl, sym, ap, ◌∙◌, arith, Bor}
use Rattle.std.proofs.Math.Seq.{take-suc}
use Rattle.std.proofs.Math.ListN.{drop_of_length-le}
use Rattle.std.proofs.Math.Bool.{not-not}
use Rattle.std.proofs.lemmas.List.{drop_more, map-append}
use Rattle.std.proofs.lemmas.List.Folds.{list_any-append}
use Rattle.std.proofs.lemmas.Bool.Decides.{Decides-eqb}
use Rattle.std.specs.Prelude.{bytes_eq}
use Rattle.std.specs.List.{list_any}
use Rattle.qe_text.specs.Lists.{is_among, repeats_behind}
use Rattle.psl_rules.specs.Parts.{Spelling}
use Rattle.psl_rules.specs.Attributes.{are_distinct_names}
use Rattle.psl_parts.proofs.Lookups.{has, inserted}

abbrev pub now_of : List (Bor Spelling) → List Spelling
now_of = map (λ name. name.now)

next : (i : ℕ) → i + 1 ≡ suc i
next i = omega arith

or_none : (b : Bool) → (b || false) ≡ b
or_none true = refl
or_none false = refl

not_none : (n : ℕ) → (suc n == 0) ≡ false
not_none n = by_case (suc n == 0) refl
  where
    by_case : (b : Bool) → (suc n == 0) ≡ b → (suc n == 0) ≡ false
    by_case false is = is
    by_case true is = absurd (let h : suc n ≡ 0 = (Decides-eqb (suc n) 0).0 is in cc)

-- ---- a set, filled text by text

pub turn_text : (names : List (Bor Spelling)) (i : ℕ) (d : Bor Spelling) (keys new : List (Bor Spelling)) (text : Spelling) (whole : Bool) → i < length names
    → new ≡ cond (has (get_or names i d).now keys) keys (keys ++ get_or names i d ∷ []) → (has text keys || is_among text (now_of (drop i names))) ≡ whole → (has text new || is_among text (now_of (drop (i + 1) names))) ≡ whole
turn_text names i d keys new text whole within new_is before =
    let name = get_or names i d in
    let rest = is_among text (now_of (drop (i + 1) names)) in
    ap (λ keys. has text keys || rest) new_is ∙ inserted keys name text rest (has name.now keys) refl
    ∙ ap (λ names. has text keys || is_among text (now_of names)) (sym (drop_more names i d within)) ∙ before

pub all_texts : (names : List (Bor Spelling)) (i : ℕ) (text : Spelling) (had whole : Bool) → length names ≤ i → (had || is_among text (now_of (drop i names))) ≡ whole → had ≡ whole
all_texts names i text had whole end before = sym (or_none had) ∙ ap (λ names. had || is_among text (now_of names)) (sym (drop_of_length-le names end)) ∙ before

-- ---- each text once

abbrev none_repeated : List Spelling → List Spelling → Bool
none_repeated before names = length (repeats_behind bytes_eq before names) == 0

-- what was seen before a text, and that the others stand once where all do
abbrev pub Turns : List (Bor Spelling) → ℕ → List (Bor Spelling) → Type 0
Turns names i keys = (none_repeated (now_of (take i names)) (now_of (drop i names)) ≡ are_distinct_names (now_of names)) × ((text : Spelling) → has text keys ≡ is_among text (now_of (take i names)))

taken : (names : List (Bor Spelling)) (i : ℕ) (d : Bor Spelling) → i < length names → now_of (take (i + 1) names) ≡ now_of (take i names) ++ (get_or names i d).now ∷ []
taken names i d within = ap (λ n. now_of (take n names)) (next i) ∙ ap now_of (take-suc names i d within) ∙ map-append (λ (one : Bor Spelling). one.now) (take i names) (get_or names i d ∷ [])

left : (names : List (Bor Spelling)) (i : ℕ) (d : Bor Spelling) → i < length names → now_of (drop i names) ≡ (get_or names i d).now ∷ now_of (drop (i + 1) names)
left names i d within = ap now_of (drop_more names i d within)

-- a text that was seen is a repeat
pub one_twice : (names : List (Bor Spelling)) (i : ℕ) (d : Bor Spelling) (keys : List (Bor Spelling)) (is_new : Bool) → i < length names → is_new ≡ not (has (get_or names i d).now keys) → is_new ≡ false
    → Turns names i keys → false ≡ are_distinct_names (now_of names)
one_twice names i d keys is_new within new_is seen h =
    let name = get_or names i d in
    let before = now_of (take i names) in
    let rest = now_of (drop (i + 1) names) in
    let later = repeats_behind bytes_eq (before ++ name.now ∷ []) rest in
    let there : is_among name.now before ≡ true = sym (h.1 name.now) ∙ sym (not-not (has name.now keys)) ∙ ap not (sym new_is ∙ seen) in
    sym (not_none (length later)) ∙ ap (λ b. length (cond b (name.now ∷ later) later) == 0) (sym there) ∙ ap (none_repeated before) (sym (left names i d within)) ∙ h.0

pub turn : (names : List (Bor Spelling)) (i : ℕ) (d : Bor Spelling) (keys new : List (Bor Spelling)) (is_new : Bool) → i < length names → is_new ≡ not (has (get_or names i d).now keys)
    → new ≡ cond (has (get_or names i d).now keys) keys (keys ++ get_or names i d ∷ []) → is_new ≡ true → Turns names i keys → Turns names (i + 1) new
turn names i d keys new is_new within new_is keys_are unseen h =
    let name = get_or names i d in
    let before = now_of (take i names) in
    let rest = now_of (drop (i + 1) names) in
    let later = repeats_behind bytes_eq (before ++ name.now ∷ []) rest in
    let absent : has name.now keys ≡ false = sym (not-not (has name.now keys)) ∙ ap not (sym new_is ∙ unseen) in
    let grown : new ≡ keys ++ name ∷ [] = keys_are ∙ ap (λ b. cond b keys (keys ++ name ∷ [])) absent in (
      ap (λ texts. none_repeated texts rest) (taken names i d within) ∙ ap (λ b. length (cond b (name.now ∷ later) later) == 0) (sym (sym (h.1 name.now) ∙ absent))
          ∙ ap (none_repeated before) (sym (left names i d within)) ∙ h.0,
      λ text. ap (has text) grown ∙ list_any-append (λ (one : Bor Spelling). bytes_eq text one.now) keys (name ∷ []) ∙ ap (λ b. b || (bytes_eq text name.now || false)) (h.1 text)
          ∙ sym (list_any-append (bytes_eq text) before (name.now ∷ [])) ∙ ap (is_among text) (sym (taken names i d within)),
    )

pub all_distinct : (names : List (Bor Spelling)) (i : ℕ) (keys : List (Bor Spelling)) → length names ≤ i → Turns names i keys → true ≡ are_distinct_names (now_of names)
all_distinct names i keys end h = ap (λ rest. none_repeated (now_of (take i names)) (now_of rest)) (sym (drop_of_length-le names end)) ∙ h.0
