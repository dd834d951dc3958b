-- Columns that are given nothing stay as they were.
use Rattle.std.proofs.Common.{◌≡◌, ℕ, zero, suc, Bool, false, ◌||◌, List, [], ◌∷◌, unwrap_or, refl, ap, ◌∙◌}
use Rattle.std.specs.Prelude.{◌==◌, slice_get, slice_set}
use Rattle.std.specs.List.{list_any}
use Rattle.std.proofs.lemmas.Bool.{eqb-false, or_parts, or_from}
use Rattle.qe_base.specs.declared.value.Row.{Row}
use Rattle.qe_base.specs.declared.value.Value.TheVariants.{Null}
use Rattle.qe_schema.specs.Cycles.{meet}
use Rattle.qe_schema.specs.Columns.{Values, at_columns}
use Rattle.qe_writing.specs.Given.{with_values, with_columns}

get_other : {A : Type 0} (xs : List A) (i j : ℕ) (x : A) → (i ≡ j → ⊥) → slice_get (slice_set xs i x) j ≡ slice_get xs j
get_other [] i j x apart = refl
get_other (y ∷ xs) zero zero x apart = absurd (apart refl)
get_other (y ∷ xs) zero (suc j) x apart = refl
get_other (y ∷ xs) (suc i) zero x apart = refl
get_other (y ∷ xs) (suc i) (suc j) x apart = get_other xs i j x (λ same. apart (ap suc same))

value_kept : (columns : List ℕ) (given values : Values) (other : ℕ) → list_any (λ column. column == other) columns ≡ false → slice_get (with_values columns given values) other ≡ slice_get values other
value_kept [] given values other apart = refl
value_kept (column ∷ columns) [] values other apart = refl
value_kept (column ∷ columns) (v ∷ given) values other apart =
    let parts = or_parts (column == other) (list_any (λ column. column == other) columns) apart in
    value_kept columns given (slice_set values column v) other parts.1 ∙ get_other values column other v (eqb-false column other parts.0)

any_or_false : {A : Type 0} (p q : A → Bool) (xs : List A) → list_any (λ x. p x || q x) xs ≡ false → (list_any p xs ≡ false) × (list_any q xs ≡ false)
any_or_false p q [] none = (refl, refl)
any_or_false p q (x ∷ xs) none =
    let parts = or_parts (p x || q x) (list_any (λ x. p x || q x) xs) none in
    let first = or_parts (p x) (q x) parts.0 in
    let rest = any_or_false p q xs parts.1 in
    (or_from (p x) (list_any p xs) first.0 rest.0, or_from (q x) (list_any q xs) first.1 rest.1)

pub columns_kept : (columns : List ℕ) (given : Values) (row : Row) (others : List ℕ) → meet columns others ≡ false → at_columns others (with_columns columns given row) ≡ at_columns others row
columns_kept columns given row [] apart = refl
columns_kept columns given row (other ∷ others) apart =
    let parts = any_or_false (λ column. column == other) (λ column. list_any (λ other. column == other) others) columns apart in
    λ i. unwrap_or (value_kept columns given row.values other parts.0 i) Null ∷ columns_kept columns given row others parts.1 i
