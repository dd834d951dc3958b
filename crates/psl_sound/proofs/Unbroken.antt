-- What an accepted tree is known to keep: no rule has a place that breaks it.
use Rattle.std.proofs.Common.{◌≡◌, inl, inr, ℕ, ◌+◌, Bool, true, false, cond, not, ◌&&◌, filter, List, [], ◌∷◌, ◌++◌, map, Option, Some, None, option_map, refl, sym, ap, ◌∙◌, true≢false, is_some}
use Rattle.std.specs.List.{list_all}
use Rattle.psl_text.specs.declared.tree.Tree.{Tree}
use Rattle.psl_rules.specs.Accepted.{Rule, Breach, rules, or_later, breach_from, IsAccepted}
use Rattle.psl_rules.specs.Parts.{Places, earlier, first, failing}
use Rattle.qe_text.specs.Lists.{In}

some_is : {A : Type 0} (a : A) → Some a ≡ None → ⊥
some_is a is = true≢false (ap is_some is)

earlier_is : (at : ℕ) (later : Option ℕ) → earlier (Some at) later ≡ None → ⊥
earlier_is at None is = some_is _ is
earlier_is at (Some other) is = some_is _ is

no_first : (places : Places) → first places ≡ None → places ≡ []
no_first [] is = refl
no_first (at ∷ places) is = absurd (earlier_is at (first places) is)

no_breach : (number : ℕ) (found : Option ℕ) (later : Option Breach) → or_later (option_map (λ at. record { rule = number; at = at }) found) later ≡ None → (found ≡ None) × (later ≡ None)
no_breach number None later is = (refl, is)
no_breach number (Some at) later is = absurd (some_is _ is)

unbroken_from : (number : ℕ) (all : List Rule) (tree : Tree) → breach_from number all tree ≡ None → (rule : Rule) → In rule all → rule tree ≡ []
unfolding In
unbroken_from number [] tree is rule is_in = absurd is_in
unbroken_from number (one ∷ others) tree is rule (inl same) = ap (λ (r : Rule). r tree) same ∙ no_first (one tree) (no_breach number (first (one tree)) (breach_from (number + 1) others tree) is).0
unbroken_from number (one ∷ others) tree is rule (inr is_in) = unbroken_from (number + 1) others tree (no_breach number (first (one tree)) (breach_from (number + 1) others tree) is).1 rule is_in

-- an accepted tree has no place that breaks one of the rules
pub unbroken : (tree : Tree) → IsAccepted tree → (rule : Rule) → In rule rules → rule tree ≡ []
unbroken tree is rule is_in = unbroken_from 1 rules tree is rule is_in

pub none_left : (xs ys : Places) → xs ++ ys ≡ [] → (xs ≡ []) × (ys ≡ [])
none_left [] ys is = (refl, is)
none_left (x ∷ xs) ys is = absurd (no_cons x (xs ++ ys) is)
  where
    is_empty : Places → Bool
    is_empty [] = true
    is_empty (at ∷ places) = false

    no_cons : (x : ℕ) (xs : Places) → x ∷ xs ≡ [] → ⊥
    no_cons x xs is = true≢false (sym (ap is_empty is))

-- where no item fails a test, all pass it
pub all_pass : {A : Type 0} (holds : A → Bool) (at : A → ℕ) (items : List A) → failing holds at items ≡ [] → list_all holds items ≡ true
all_pass holds at [] is = refl
all_pass holds at (item ∷ items) is = by_test (holds item) refl (all_pass holds at items)
  where
    head : Places → Option ℕ
    head [] = None
    head (at ∷ places) = Some at

    no_item : (x : ℕ) (xs : Places) → x ∷ xs ≡ [] → ⊥
    no_item x xs is = some_is x (ap head is)

    by_test : (b : Bool) → holds item ≡ b → (failing holds at items ≡ [] → list_all holds items ≡ true) → list_all holds (item ∷ items) ≡ true
    by_test true passes h = ap (λ b. b && list_all holds items) passes ∙ h (sym (ap (λ b. map at (cond (not b) (item ∷ filter (λ x. not (holds x)) items) (filter (λ x. not (holds x)) items))) passes) ∙ is)
    by_test false fails h = absurd (no_item (at item) (map at (filter (λ x. not (holds x)) items)) (sym (ap (λ b. map at (cond (not b) (item ∷ filter (λ x. not (holds x)) items) (filter (λ x. not (holds x)) items))) fails) ∙ is))
