-- Two lists side by side.
use Rattle.std.proofs.Common.{◌≡◌, ℕ, zero, suc, ◌≤◌, min, Bool, true, List, [], ◌∷◌, length, drop, refl, sym, ap, ◌∙◌, arith}
use Rattle.std.proofs.lemmas.List.{drop_all}
use Rattle.std.specs.List.{list_all, zip}
use Rattle.psl_rules.specs.Parts.{ModelField}
use Rattle.psl_rules.specs.Foreign.{have_same_type}

zip_none : (xs : List ModelField) → zip {X = ModelField} xs [] ≡ []
zip_none [] = refl
zip_none (x ∷ xs) = refl

zip_ended : (xs ys : List ModelField) (i : ℕ) → min (length xs) (length ys) ≤ i → zip (drop i xs) (drop i ys) ≡ []
zip_ended [] ys i h = ap (λ (zs : List ModelField). zip zs (drop i ys)) (drop_all i [] (omega arith))
zip_ended (x ∷ xs) [] i h = ap (λ (zs : List ModelField). zip (drop i (x ∷ xs)) zs) (drop_all i [] (omega arith)) ∙ zip_none (drop i (x ∷ xs))
zip_ended (x ∷ xs) (y ∷ ys) zero h = absurd (omega arith)
zip_ended (x ∷ xs) (y ∷ ys) (suc i) h = zip_ended xs ys i (omega arith)

-- behind the end of one of them, all have the same types
pub types_ended : (xs ys : List ModelField) (i : ℕ) (whole : Bool) → min (length xs) (length ys) ≤ i → list_all have_same_type (zip (drop i xs) (drop i ys)) ≡ whole → true ≡ whole
types_ended xs ys i whole ended before = sym (ap (list_all have_same_type) (zip_ended xs ys i ended)) ∙ before
