-- Loops over a block's entries, of which some are fields.
use Rattle.std.proofs.Common.{◌≡◌, ℕ, ◌+◌, ◌<◌, Bool, List, [], ◌∷◌, ◌++◌, map, filter, length, drop, get_or, Option, Some, None, refl, sym, ap, ◌∙◌, Bor}
use Rattle.std.specs.Prelude.{option_to_list}
use Rattle.std.specs.List.{flat_map, filter_map, cons_option}
use Rattle.std.proofs.lemmas.List.{map-append}
use Rattle.std.proofs.lemmas.List.Elements.{filter-append}
use Rattle.psl_rules.specs.Parts.{first, earlier}
use Rattle.psl_parts.proofs.Firsts.{turn_each, ended, first_append, left_at, earlier_assoc}

consed : {B : Type 0} (o : Option B) (ys : List B) → cons_option o ys ≡ option_to_list o ++ ys
consed None ys = refl
consed (Some y) ys = refl

-- over the items that the entries have
pub turn_some : {A B : Type 0} (g : A → Option B) (P : List B → List ℕ) → ((one other : List B) → P (one ++ other) ≡ P one ++ P other) → (xs : List A) (i : ℕ) (item : A) (found now whole : Option ℕ) → i < length xs → item ≡ get_or xs i item
    → now ≡ earlier found (first (P (option_to_list (g item)))) → earlier found (first (P (filter_map g (drop i xs)))) ≡ whole → earlier now (first (P (filter_map g (drop (i + 1) xs)))) ≡ whole
turn_some g P adds xs i item found now whole within is now_is h =
    let rest = filter_map g (drop (i + 1) xs) in
    ap (λ r. earlier r (first (P rest))) now_is ∙ sym (earlier_assoc found (first (P (option_to_list (g item)))) (first (P rest)))
    ∙ ap (earlier found) (sym (first_append (P (option_to_list (g item))) (P rest)) ∙ ap first (sym (adds (option_to_list (g item)) rest) ∙ ap P (sym (consed (g item) rest))))
    ∙ ap (λ all. earlier found (first (P (filter_map g all)))) (sym (left_at xs i item within is)) ∙ h

pub kept_adds : {B : Type 0} (at : B → ℕ) (keeps : B → Bool) (one other : List B) → map at (filter keeps (one ++ other)) ≡ map at (filter keeps one) ++ map at (filter keeps other)
kept_adds at keeps one other = ap (map at) (filter-append keeps one other) ∙ map-append at (filter keeps one) (filter keeps other)
