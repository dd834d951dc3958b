-- Arguments and the rows of a table.
use Rattle.std.proofs.Common.{◌≡◌, Bool, ◌&&◌, ◌||◌, List, [], ◌∷◌, map, length, refl, ap, ◌∙◌}
use Rattle.std.specs.List.{list_any, list_all, count_by}
use Rattle.std.proofs.lemmas.List.Sums.{length-filter}
use Rattle.std.proofs.lemmas.List.Folds.{list_all-map}
use Rattle.psl_text.specs.declared.tree.Argument.{Argument}
use Rattle.psl_fields.specs.declared.arguments.Parameter as table
use Rattle.psl_rules.specs.Arguments.{Parameter, gives_to, is_taken, arguments_for, arguments_fit}
use Rattle.psl_fields.specs.Parameters.{parameter_of}

pub counted : (parameter : Parameter) (arguments : List Argument) → length (arguments_for parameter arguments) ≡ count_by (λ argument. gives_to argument parameter) arguments
counted parameter arguments = length-filter (λ argument. gives_to argument parameter) arguments

pub any_mapped : {A B : Type 0} (test : B → Bool) (f : A → B) (xs : List A) → list_any test (map f xs) ≡ list_any (λ x. test (f x)) xs
any_mapped test f [] = refl
any_mapped test f (x ∷ xs) = ap (λ b. test (f x) || b) (any_mapped test f xs)

all_for : (rows : List table.Parameter) (arguments : List Argument)
    → list_all (λ argument. list_any (gives_to argument) (map parameter_of rows)) arguments ≡ list_all (λ argument. list_any (λ row. gives_to argument (parameter_of row)) rows) arguments
all_for rows [] = refl
all_for rows (argument ∷ arguments) =
    ap (λ b. b && list_all (λ argument. list_any (gives_to argument) (map parameter_of rows)) arguments) (any_mapped (gives_to argument) parameter_of rows)
    ∙ ap (λ b. list_any (λ row. gives_to argument (parameter_of row)) rows && b) (all_for rows arguments)

pub fit_rows : (rows : List table.Parameter) (arguments : List Argument)
    → arguments_fit (map parameter_of rows) arguments
    ≡ (list_all (λ argument. list_any (λ row. gives_to argument (parameter_of row)) rows) arguments && list_all (λ row. is_taken arguments (parameter_of row)) rows)
fit_rows rows arguments =
    ap (λ b. b && list_all (is_taken arguments) (map parameter_of rows)) (all_for rows arguments)
    ∙ ap (λ b. list_all (λ argument. list_any (λ row. gives_to argument (parameter_of row)) rows) arguments && b) (list_all-map (is_taken arguments) parameter_of rows)

-- lists of six
pub six : {A : Type 0} {a a' b b' c c' d d' e e' f f' : A} → a ≡ a' → b ≡ b' → c ≡ c' → d ≡ d' → e ≡ e' → f ≡ f'
    → ◌≡◌ {A = List A} (a ∷ b ∷ c ∷ d ∷ e ∷ f ∷ []) (a' ∷ b' ∷ c' ∷ d' ∷ e' ∷ f' ∷ [])
six p q r s t u = cc
