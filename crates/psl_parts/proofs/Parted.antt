-- What is found in a list, part by part: in two lists joined, the earlier of what is found in each.
use Rattle.std.proofs.Common.{◌≡◌, ℕ, ◌+◌, ◌<◌, min, Bool, not, List, [], ◌∷◌, ◌++◌, map, filter, length, drop, get_or, Option, Some, None, refl, sym, ap, ◌∙◌, arith}
use Rattle.std.proofs.lemmas.List.{drop_more, map-append}
use Rattle.std.proofs.lemmas.List.Elements.{filter-append, filter_map-append}
use Rattle.std.proofs.lemmas.List.Concat.{flat_map-append}
use Rattle.std.specs.List.{flat_map, filter_map}
use Rattle.psl_rules.specs.Parts.{Places, earlier, first, failing}
use Rattle.psl_parts.proofs.Firsts.{earlier_assoc, first_append}

min_comm : (a b : ℕ) → min a b ≡ min b a
min_comm a b = omega arith

pub earlier_comm : (one other : Option ℕ) → earlier one other ≡ earlier other one
earlier_comm None None = refl
earlier_comm None (Some b) = refl
earlier_comm (Some a) None = refl
earlier_comm (Some a) (Some b) = ap Some (min_comm a b)

abbrev pub IsParted : {A : Type 0} → (List A → Option ℕ) → Type 0
IsParted {A} find = (xs ys : List A) → find (xs ++ ys) ≡ earlier (find xs) (find ys)

pub parted_flat_map : {A : Type 0} (f : A → Places) → IsParted (λ xs. first (flat_map f xs))
parted_flat_map f xs ys = ap first (flat_map-append f xs ys) ∙ first_append (flat_map f xs) (flat_map f ys)

pub parted_failing : {A : Type 0} (holds : A → Bool) (at : A → ℕ) → IsParted (λ xs. first (failing holds at xs))
parted_failing holds at xs ys =
    ap (λ zs. first (map at zs)) (filter-append (λ x. not (holds x)) xs ys) ∙ ap first (map-append at (filter (λ x. not (holds x)) xs) (filter (λ x. not (holds x)) ys))
    ∙ first_append (failing holds at xs) (failing holds at ys)

pub parted_filter : {A : Type 0} (test : A → Bool) (find : List A → Option ℕ) → IsParted find → IsParted (λ xs. find (filter test xs))
parted_filter test find parted xs ys = ap find (filter-append test xs ys) ∙ parted (filter test xs) (filter test ys)

pub parted_filter_map : {A B : Type 0} (h : A → Option B) (find : List B → Option ℕ) → IsParted find → IsParted (λ xs. find (filter_map h xs))
parted_filter_map h find parted xs ys = ap find (filter_map-append h xs ys) ∙ parted (filter_map h xs) (filter_map h ys)

exchange : (a b c d : Option ℕ) → earlier (earlier a b) (earlier c d) ≡ earlier (earlier a c) (earlier b d)
exchange a b c d =
    sym (earlier_assoc a b (earlier c d)) ∙ ap (earlier a) (earlier_assoc b c d ∙ ap (λ one. earlier one d) (earlier_comm b c) ∙ sym (earlier_assoc c b d)) ∙ earlier_assoc a c (earlier b d)

-- what two lists of places have
pub parted_both : {A : Type 0} (one other : List A → Places) → IsParted (λ xs. first (one xs)) → IsParted (λ xs. first (other xs)) → IsParted (λ xs. first (one xs ++ other xs))
parted_both one other h k xs ys =
    first_append (one (xs ++ ys)) (other (xs ++ ys)) ∙ ap (earlier (first (one (xs ++ ys)))) (k xs ys) ∙ ap (λ found. earlier found (earlier (first (other xs)) (first (other ys)))) (h xs ys)
    ∙ exchange (first (one xs)) (first (one ys)) (first (other xs)) (first (other ys))
    ∙ ap (λ found. earlier found (earlier (first (one ys)) (first (other ys)))) (sym (first_append (one xs) (other xs)))
    ∙ ap (earlier (first (one xs ++ other xs))) (sym (first_append (one ys) (other ys)))

-- ---- a turn of a loop

pub turn : {A : Type 0} (find : List A → Option ℕ) → IsParted find → (xs : List A) (i : ℕ) (item : A) (found here result whole : Option ℕ) → i < length xs → item ≡ get_or xs i item
    → here ≡ find (item ∷ []) → result ≡ earlier found here → earlier found (find (drop i xs)) ≡ whole → earlier result (find (drop (i + 1) xs)) ≡ whole
turn find parted xs i item found here result whole within is here_is result_is before =
    ap (λ r. earlier r (find (drop (i + 1) xs))) result_is ∙ sym (earlier_assoc found here (find (drop (i + 1) xs)))
    ∙ ap (earlier found) (ap (λ h. earlier h (find (drop (i + 1) xs))) here_is ∙ sym (parted (item ∷ []) (drop (i + 1) xs))
    ∙ ap (λ one. find (one ∷ drop (i + 1) xs)) is ∙ ap find (sym (drop_more xs i item within)))
    ∙ before
