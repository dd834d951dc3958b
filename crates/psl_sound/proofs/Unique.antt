-- Items whose names differ are told apart by them.
use Rattle.std.proofs.Common.{◌≡◌, inl, inr, Bool, true, false, cond, ◌||◌, List, [], ◌∷◌, ◌++◌, map, refl, sym, ap, subst, ◌∙◌, true≢false}
use Rattle.std.specs.Prelude.{bytes_eq}
use Rattle.std.specs.List.{list_any}
use Rattle.std.proofs.lemmas.List.Folds.{list_any-append}
use Rattle.std.proofs.lemmas.Slice.Eq.{bytes_eq-Decides}
use Rattle.psl_text.specs.declared.tree.Name.{Name}
use Rattle.psl_rules.specs.Parts.{Spelling, same_name}
use Rattle.qe_text.specs.Lists.{repeats_behind, repeats, In}
use Rattle.qe_schema.proofs.Members.{in_map}

same_text : (x y : Spelling) → bytes_eq x y ≡ true → bytes_eq y x ≡ true
same_text x y is = (bytes_eq-Decides y x).1 (sym ((bytes_eq-Decides x y).0 is))

or_false : (a b : Bool) → (a || b) ≡ false → (a ≡ false) × (b ≡ false)
or_false true b is = absurd (true≢false is)
or_false false b is = (refl, is)

abbrev is_empty : {A : Type 0} → List A → Bool
is_empty [] = true
is_empty (x ∷ xs) = false

-- one step: what is first is like none before, and neither is what follows
pub first_apart : {A : Type 0} (same : A → A → Bool) (before : List A) (item : A) (items : List A) → repeats_behind same before (item ∷ items) ≡ [] → (list_any (same item) before ≡ false) × (repeats_behind same (before ++ item ∷ []) items ≡ [])
first_apart same before item items is = by_test (list_any (same item) before) refl
  where
    whole : (b : Bool) → list_any (same item) before ≡ b → cond b (item ∷ repeats_behind same (before ++ item ∷ []) items) (repeats_behind same (before ++ item ∷ []) items) ≡ []
    whole b one = sym (ap (λ c. cond c (item ∷ repeats_behind same (before ++ item ∷ []) items) (repeats_behind same (before ++ item ∷ []) items)) one) ∙ is

    by_test : (b : Bool) → list_any (same item) before ≡ b → (list_any (same item) before ≡ false) × (repeats_behind same (before ++ item ∷ []) items ≡ [])
    by_test true one = absurd (true≢false (sym (ap is_empty (whole true one))))
    by_test false one = (one, whole false one)

apart_before : {A : Type 0} (same : A → A → Bool) (before items : List A) → repeats_behind same before items ≡ [] → (x : A) → In x items → list_any (same x) before ≡ false
unfolding In
apart_before same before [] is x is_in = absurd is_in
apart_before same before (item ∷ items) is x (inl here) = ap (λ y. list_any (same y) before) here ∙ (first_apart same before item items is).0
apart_before same before (item ∷ items) is x (inr is_in) =
    let rest = apart_before same (before ++ item ∷ []) items (first_apart same before item items is).1 x is_in in
    (or_false (list_any (same x) before) (list_any (same x) (item ∷ [])) (sym (list_any-append (same x) before (item ∷ [])) ∙ rest)).0

-- an item behind another one has another name
other_name : {A : Type 0} (name : A → Name) (before : List Name) (item : A) (items : List A) → repeats_behind same_name (before ++ name item ∷ []) (map name items) ≡ [] → (y : A) → In y items → bytes_eq (name y).text (name item).text ≡ true → ⊥
other_name name before item items is y is_in same =
    let apart = apart_before same_name (before ++ name item ∷ []) (map name items) is (name y) (in_map name items y is_in) in
    let last = (or_false (list_any (same_name (name y)) before) (list_any (same_name (name y)) (name item ∷ [])) (sym (list_any-append (same_name (name y)) before (name item ∷ [])) ∙ apart)).1 in
    true≢false (sym (ap (λ b. b || false) same) ∙ last)

unique_behind : {A : Type 0} (name : A → Name) (before : List Name) (xs : List A) → repeats_behind same_name before (map name xs) ≡ [] → (x y : A) → In x xs → In y xs → bytes_eq (name x).text (name y).text ≡ true → x ≡ y
unfolding In
unique_behind name before [] is x y in_x in_y same = absurd in_x
unique_behind name before (item ∷ items) is x y (inl here) (inl there) same = here ∙ sym there
unique_behind name before (item ∷ items) is x y (inl here) (inr behind) same =
    absurd (other_name name before item items (first_apart same_name before (name item) (map name items) is).1 y behind (same_text (name item).text (name y).text (subst (λ z. bytes_eq (name z).text (name y).text ≡ true) here same)))
unique_behind name before (item ∷ items) is x y (inr behind) (inl there) same =
    absurd (other_name name before item items (first_apart same_name before (name item) (map name items) is).1 x behind (subst (λ z. bytes_eq (name x).text (name z).text ≡ true) there same))
unique_behind name before (item ∷ items) is x y (inr one) (inr other) same = unique_behind name (before ++ name item ∷ []) items (first_apart same_name before (name item) (map name items) is).1 x y one other same

pub unique : {A : Type 0} (name : A → Name) (xs : List A) → repeats same_name (map name xs) ≡ [] → (x y : A) → In x xs → In y xs → bytes_eq (name x).text (name y).text ≡ true → x ≡ y
unique name xs is = unique_behind name [] xs is
