-- Laws of filters.
use Rattle.std.proofs.Common.{◌≡◌, ℕ, List, [], ◌∷◌, map, Bool, true, false, ◌||◌, not, refl, sym, ap, ◌∙◌}
use Rattle.std.specs.Prelude.{if◌then◌else◌}
use Rattle.std.specs.List.{list_any}
use Rattle.qe_base.specs.declared.value.Row.{Row}
use Rattle.qe_base.specs.declared.query.Filter.{Filter}
use Rattle.qe_base.specs.declared.query.Filter.TheVariants as filter
use Rattle.qe_base.specs.declared.query.Quant.TheVariants as quant
use Rattle.qe_base.specs.Schemas.{Schema}
use Rattle.qe_schema.specs.Tables.{Tables}
use Rattle.qe_schema.specs.declared.truth.Truth.{Truth}
use Rattle.qe_schema.specs.declared.truth.Truth.TheVariants.{Yes, No, Unknown}
use Rattle.qe_reading.specs.Related.{other_table, related}
use Rattle.qe_reading.specs.Truth.{Says, truth_of, all_of, any_of, both, either, opposite, of_many, is_no, is_unknown}
use Rattle.qe_schema.specs.Tests.{yes_if, is_yes}
use Rattle.qe_reading.proofs.Layers.{truth_all, truth_any, truth_not, truth_many}

all_said : (schema : Schema) (tables : Tables) (table : ℕ) (row : Row) (parts : List Filter)
    → all_of (map (λ (part : Says). part table row) (map (truth_of schema tables) parts)) ≡ all_of (map (λ part. truth_of schema tables part table row) parts)
all_said schema tables table row [] = refl
all_said schema tables table row (part ∷ parts) = ap (both (truth_of schema tables part table row)) (all_said schema tables table row parts)

any_said : (schema : Schema) (tables : Tables) (table : ℕ) (row : Row) (parts : List Filter)
    → any_of (map (λ (part : Says). part table row) (map (truth_of schema tables) parts)) ≡ any_of (map (λ part. truth_of schema tables part table row) parts)
any_said schema tables table row [] = refl
any_said schema tables table row (part ∷ parts) = ap (either (truth_of schema tables part table row)) (any_said schema tables table row parts)

pub says_all : (schema : Schema) (tables : Tables) (parts : List Filter) (table : ℕ) (row : Row)
    → truth_of schema tables (filter.All parts) table row ≡ all_of (map (λ part. truth_of schema tables part table row) parts)
says_all schema tables parts table row = ap (λ (says : Says). says table row) (truth_all schema tables parts) ∙ all_said schema tables table row parts

pub says_any : (schema : Schema) (tables : Tables) (parts : List Filter) (table : ℕ) (row : Row)
    → truth_of schema tables (filter.Any parts) table row ≡ any_of (map (λ part. truth_of schema tables part table row) parts)
says_any schema tables parts table row = ap (λ (says : Says). says table row) (truth_any schema tables parts) ∙ any_said schema tables table row parts

pub says_not : (schema : Schema) (tables : Tables) (part : Filter) (table : ℕ) (row : Row) → truth_of schema tables (filter.Not part) table row ≡ opposite (truth_of schema tables part table row)
says_not schema tables part table row = ap (λ (says : Says). says table row) (truth_not schema tables part)

opposite_twice : (truth : Truth) → opposite (opposite truth) ≡ truth
opposite_twice Yes = refl
opposite_twice No = refl
opposite_twice Unknown = refl

pub not_twice : (schema : Schema) (tables : Tables) (part : Filter) (table : ℕ) (row : Row) → truth_of schema tables (filter.Not (filter.Not part)) table row ≡ truth_of schema tables part table row
not_twice schema tables part table row =
    says_not schema tables (filter.Not part) table row ∙ ap opposite (says_not schema tables part table row) ∙ opposite_twice (truth_of schema tables part table row)

pub every_of_none : (schema : Schema) (tables : Tables) (field : ℕ) (inner : Filter) (table : ℕ) (row : Row)
    → related schema tables table field row ≡ [] → truth_of schema tables (filter.Many field quant.Every inner) table row ≡ Yes
every_of_none schema tables field inner table row none =
    ap (λ (says : Says). says table row) (truth_many schema tables field quant.Every inner)
    ∙ ap (λ rows. of_many quant.Every (map (truth_of schema tables inner (other_table schema table field)) rows)) none

opposite_if : (test : Bool) → yes_if (not test) ≡ opposite (yes_if test)
opposite_if true = refl
opposite_if false = refl

pub none_is_not_some : (schema : Schema) (tables : Tables) (field : ℕ) (inner : Filter) (table : ℕ) (row : Row)
    → truth_of schema tables (filter.Many field quant.None inner) table row ≡ opposite (truth_of schema tables (filter.Many field quant.Some inner) table row)
none_is_not_some schema tables field inner table row =
    let truths = map (truth_of schema tables inner (other_table schema table field)) (related schema tables table field row) in
    ap (λ (says : Says). says table row) (truth_many schema tables field quant.None inner)
    ∙ opposite_if (list_any is_yes truths)
    ∙ ap opposite (sym (ap (λ (says : Says). says table row) (truth_many schema tables field quant.Some inner)))

-- No before Unknown before Yes
abbrev verdict : Bool → Bool → Truth
verdict refused unsure = if refused then No else (if unsure then Unknown else Yes)

both_verdict : (part : Truth) (refused unsure : Bool) → both part (verdict refused unsure) ≡ verdict (is_no part || refused) (is_unknown part || unsure)
both_verdict Yes refused unsure = refl
both_verdict No refused unsure = refl
both_verdict Unknown true unsure = refl
both_verdict Unknown false true = refl
both_verdict Unknown false false = refl

pub all_by_worst : (parts : List Truth) → all_of parts ≡ (if list_any is_no parts then No else (if list_any is_unknown parts then Unknown else Yes))
all_by_worst [] = refl
all_by_worst (part ∷ parts) = ap (both part) (all_by_worst parts) ∙ both_verdict part (list_any is_no parts) (list_any is_unknown parts)

opposite_both : (a b : Truth) → opposite (both (opposite a) b) ≡ either a (opposite b)
opposite_both Yes b = refl
opposite_both No b = refl
opposite_both Unknown Yes = refl
opposite_both Unknown No = refl
opposite_both Unknown Unknown = refl

pub any_by_all : (parts : List Truth) → any_of parts ≡ opposite (all_of (map opposite parts))
any_by_all [] = refl
any_by_all (part ∷ parts) = ap (either part) (any_by_all parts) ∙ sym (opposite_both part (all_of (map opposite parts)))
