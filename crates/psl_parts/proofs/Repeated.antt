-- Names that stand twice, one after another.
use Rattle.std.proofs.Common.{◌≡◌, ℕ, suc, ◌+◌, ◌<◌, Bool, true, false, cond, not, ◌||◌, List, [], ◌∷◌, ◌++◌, map, length, take, drop, get_or, Option, Some, None, refl, sym, ap, ◌∙◌, subst, arith, Bor}
use Rattle.std.proofs.Math.Seq.{take-suc, drop-cons}
use Rattle.std.proofs.Math.Bool.{not-not}
use Rattle.std.proofs.lemmas.List.{map-append}
use Rattle.std.proofs.lemmas.List.Folds.{list_any-append}
use Rattle.std.proofs.lemmas.Slice.Eq.{bytes_eq-Decides}
use Rattle.std.specs.Prelude.{bytes_eq}
use Rattle.std.specs.List.{list_any}
use Rattle.psl_text.specs.declared.tree.Name.{Name}
use Rattle.psl_rules.specs.Parts.{earlier, noted, first, place}
use Rattle.qe_text.specs.Lists.{repeats_behind}
use Rattle.psl_rules.specs.Names.{same_name}
use Rattle.psl_parts.proofs.Firsts.{earlier_assoc}

-- what is found behind one name more
pub one_more : (before rest : List Name) (name : Name) (found : Option ℕ) (repeated : Bool) → list_any (same_name name) before ≡ repeated
    → earlier (cond repeated (earlier found (Some name.at)) found) (first (map place (repeats_behind same_name (before ++ name ∷ []) rest))) ≡ earlier found (first (map place (repeats_behind same_name before (name ∷ rest))))
one_more before rest name found true is =
    sym (earlier_assoc found (Some name.at) (first (map place (repeats_behind same_name (before ++ name ∷ []) rest))))
    ∙ sym (ap (λ b. earlier found (first (map place (cond b (name ∷ repeats_behind same_name (before ++ name ∷ []) rest) (repeats_behind same_name (before ++ name ∷ []) rest))))) is)
one_more before rest name found false is =
    sym (ap (λ b. earlier found (first (map place (cond b (name ∷ repeats_behind same_name (before ++ name ∷ []) rest) (repeats_behind same_name (before ++ name ∷ []) rest))))) is)

-- the texts that were seen are those of the names before
abbrev pub Seen : List (List ℕ) → List Name → Type 0
Seen texts before = (text : List ℕ) → list_any (bytes_eq text) texts ≡ list_any (λ name. bytes_eq text name.text) before

abbrev pub now_of : Bor Name → Name
now_of name = name.now

-- ---- a turn of the loop

next : (i : ℕ) → i + 1 ≡ suc i
next i = omega arith

pub name_taken : (names : List (Bor Name)) (i : ℕ) (item : Bor Name) → i < length names → item ≡ get_or names i item → map now_of (take (i + 1) names) ≡ map now_of (take i names) ++ item.now ∷ []
name_taken names i item within is =
    ap (λ n. map now_of (take n names)) (next i) ∙ ap (map now_of) (take-suc names i item within) ∙ map-append now_of (take i names) (get_or names i item ∷ []) ∙ ap (λ one. map now_of (take i names) ++ now_of one ∷ []) (sym is)

pub name_left : (names : List (Bor Name)) (i : ℕ) (item : Bor Name) → i < length names → item ≡ get_or names i item → map now_of (drop i names) ≡ item.now ∷ map now_of (drop (i + 1) names)
name_left names i item within is =
    ap (map now_of) (drop-cons names i item within) ∙ ap (λ one. now_of one ∷ map now_of (drop (suc i) names)) (sym is) ∙ ap (λ n. item.now ∷ map now_of (drop n names)) (sym (next i))

-- what was found and seen before a name, in front of the names that are left
abbrev pub Turns : List (Bor Name) → ℕ → Option ℕ → List (Bor (List ℕ)) → Option ℕ → Type 0
Turns names i found keys whole =
    (earlier found (first (map place (repeats_behind same_name (map now_of (take i names)) (map now_of (drop i names))))) ≡ whole) × Seen (map (λ text. text.now) keys) (map now_of (take i names))

abbrev same_text : Bor (List ℕ) → Bor (List ℕ) → Bool
same_text text key = bytes_eq text.now key.now

pub any_now : (text : List ℕ) (keys : List (Bor (List ℕ))) → list_any (λ key. bytes_eq text key.now) keys ≡ list_any (bytes_eq text) (map (λ key. key.now) keys)
any_now text [] = refl
any_now text (key ∷ keys) = ap (λ b. bytes_eq text key.now || b) (any_now text keys)

or_false : (b : Bool) → (b || false) ≡ b
or_false true = refl
or_false false = refl

or_true : (b : Bool) → (b || true) ≡ true
or_true true = refl
or_true false = refl

-- whether a name was seen
was_seen : (keys : List (Bor (List ℕ))) (before : List Name) (text : Bor (List ℕ)) (name : Name) → text.now ≡ name.text → Seen (map (λ key. key.now) keys) before → list_any (same_text text) keys ≡ list_any (same_name name) before
was_seen keys before text name is seen = any_now text.now keys ∙ seen text.now ∙ ap (λ t. list_any (λ one. bytes_eq t one.text) before) is

-- what is seen behind it
then_seen : (keys : List (Bor (List ℕ))) (before : List Name) (text : Bor (List ℕ)) (name : Name) (b : Bool) → text.now ≡ name.text → Seen (map (λ key. key.now) keys) before → list_any (same_text text) keys ≡ b
    → Seen (map (λ key. key.now) (cond b keys (keys ++ text ∷ []))) (before ++ name ∷ [])
then_seen keys before text name false is seen e other =
    ap (λ texts. list_any (bytes_eq other) texts) (map-append (λ (key : Bor (List ℕ)). key.now) keys (text ∷ [])) ∙ list_any-append (bytes_eq other) (map (λ key. key.now) keys) (text.now ∷ [])
    ∙ ap (λ b. b || (bytes_eq other text.now || false)) (seen other) ∙ ap (λ t. list_any (λ one. bytes_eq other one.text) before || (bytes_eq other t || false)) is
    ∙ sym (list_any-append (λ (one : Name). bytes_eq other one.text) before (name ∷ []))
then_seen keys before text name true is seen e other =
    seen other ∙ sym (list_any-append (λ (one : Name). bytes_eq other one.text) before (name ∷ []) ∙ absorbed (bytes_eq other name.text) refl)
  where
    absorbed : (b : Bool) → bytes_eq other name.text ≡ b → (list_any (λ one. bytes_eq other one.text) before || (b || false)) ≡ list_any (λ one. bytes_eq other one.text) before
    absorbed false found = or_false (list_any (λ one. bytes_eq other one.text) before)
    absorbed true found =
        let same : other ≡ text.now = (bytes_eq-Decides other name.text).0 found ∙ sym is in
        let there : list_any (λ one. bytes_eq other one.text) before ≡ true = sym (seen other) ∙ ap (λ t. list_any (bytes_eq t) (map (λ (key : Bor (List ℕ)). key.now) keys)) same ∙ sym (any_now text.now keys) ∙ e in
        or_true (list_any (λ one. bytes_eq other one.text) before) ∙ sym there

pub turn : (names : List (Bor Name)) (i : ℕ) (item : Bor Name) (keys new : List (Bor (List ℕ))) (text : Bor (List ℕ)) (found result whole : Option ℕ) (is_new : Bool) → i < length names → item ≡ get_or names i item
    → text.now ≡ item.now.text → is_new ≡ not (list_any (same_text text) keys) → new ≡ cond (list_any (same_text text) keys) keys (keys ++ text ∷ []) → result ≡ noted found (not is_new) item.now.at
    → Turns names i found keys whole → Turns names (i + 1) result new whole
turn names i item keys new text found result whole is_new within item_is text_is new_is keys_are result_is h =
    let before = map now_of (take i names) in
    let rest = map now_of (drop (i + 1) names) in
    let there = was_seen keys before text item.now text_is h.1 in
    let taken = name_taken names i item within item_is in
    let left = name_left names i item within item_is in
    let breaks : not is_new ≡ list_any (same_text text) keys = ap not new_is ∙ not-not (list_any (same_text text) keys) in
    let found_is : result ≡ cond (list_any (same_text text) keys) (earlier found (Some item.now.at)) found = result_is ∙ ap (λ b. noted found b item.now.at) breaks in (
      ap (λ r. earlier r (first (map place (repeats_behind same_name (map now_of (take (i + 1) names)) rest)))) found_is
          ∙ ap (λ names. earlier (cond (list_any (same_text text) keys) (earlier found (Some item.now.at)) found) (first (map place (repeats_behind same_name names rest)))) taken
          ∙ one_more before rest item.now found (list_any (same_text text) keys) (sym there) ∙ ap (λ names. earlier found (first (map place (repeats_behind same_name before names)))) (sym left) ∙ h.0,
      subst (λ names. Seen (map (λ key. key.now) new) names) (sym taken) (subst (λ keys. Seen (map (λ key. key.now) keys) (before ++ item.now ∷ [])) (sym keys_are) (then_seen keys before text item.now (list_any (same_text text) keys) text_is h.1 refl)),
    )
