-- The values of a request, one for each column, are values of the columns, and none is given twice.
use Rattle.std.proofs.Common.{◌≡◌, ℕ, suc, ◌+◌, ◌<◌, ◌≤◌, Bool, List, [], ◌∷◌, map, length, true, false, not, ◌||◌, nat_lt, Some, option_map, option_and_then, slice_get, refl, sym, ap, ◌∙◌, subst, arith, add-zero, true≢false}
use Rattle.std.specs.Prelude.{◌==◌, if◌then◌else◌}
use Rattle.std.specs.List.{list_all, enumerate_from}
use Rattle.std.proofs.lemmas.Bool.{and_from, and_parts, eq-eqb}
use Rattle.std.proofs.lemmas.Bool.Decides.{nat_tests}
use Rattle.serde_json.specs.Data.{Data}
use Rattle.serde_json.specs.Find.{get, as_str, as_number, as_i64}
use Rattle.qe_base.specs.declared.value.Kind.{Kind}
use Rattle.qe_base.specs.declared.value.Kind.TheVariants as kind
use Rattle.qe_base.specs.declared.value.Value.{Value}
use Rattle.qe_base.specs.declared.value.Value.TheVariants as value
use Rattle.qe_base.specs.declared.schema.Choice.{Choice}
use Rattle.qe_base.specs.declared.schema.Column.{Column}
use Rattle.qe_base.specs.Schemas.{Schema}
use Rattle.qe_schema.specs.Columns.{is_null}
use Rattle.qe_scalars.specs.Numbers.{is_small}
use Rattle.qe_schema.specs.Fits.{is_of_kind, fits_column}
use Rattle.qe_schema.specs.Tables.{table_at}
use Rattle.qe_reading.specs.Fits.{is_ascending}
use Rattle.qe_reading.specs.Related.{is_some_such}
use Rattle.qe_writing.specs.Numbers.{is_one_of, are_distinct}
use Rattle.qe_writing.specs.WriteFits.{value_fits, must_be_given}
use Rattle.qe_forms.specs.Request.{small_number, value_of, all_of, given_in}
use Rattle.qe_request.proofs.Given.{then_some, map_some, if_some}

-- a value of a column that is not null
pub record Fitting (choices : List Choice) (column : Column) (found : Value) : Type 0 where
  pub own : is_of_kind choices column.kind found ≡ true
  pub there : is_null found ≡ false

pub fits_own : (choices : List Choice) (column : Column) (found : Value) → Fitting choices column found → fits_column choices column found ≡ true
fits_own choices column found fits = ap (λ b. if b then column.optional else is_of_kind choices column.kind found) fits.there ∙ fits.own

of_kind : (choices : List Choice) (column : Column) (of : Kind) (json : Data) (found : Value) → column.kind ≡ of → value_of of json ≡ Some found → Fitting choices column found
of_kind choices column kind.Text json found is e =
    let text = map_some value.Text (as_str json) found e in
    subst (Fitting choices column) text.2 (record { own = ap (λ k. is_of_kind choices k (value.Text text.0)) is; there = refl })
of_kind choices column kind.Int json found is e =
    let number = then_some small_number (option_and_then as_i64 (as_number json)) found e in
    let small = if_some (is_small number.0) (Some (value.Int number.0)) found number.2 in
    let same : value.Int number.0 ≡ found = let h = small.1 in cc in
    subst (Fitting choices column) same (record { own = ap (λ k. is_of_kind choices k (value.Int number.0)) is ∙ small.0; there = refl })
of_kind choices column kind.Bool json found is e = absurd cc
of_kind choices column kind.Big json found is e = absurd cc
of_kind choices column kind.Moment json found is e = absurd cc
of_kind choices column kind.Blob json found is e = absurd cc
of_kind choices column (kind.Member enum) json found is e = absurd cc

pub fitting : (choices : List Choice) (column : Column) (json : Data) (found : Value) → value_of column.kind json ≡ Some found → Fitting choices column found
fitting choices column json found e = of_kind choices column column.kind json found refl e

-- the first value, and the others
pub record Starts (choices : List Choice) (json : Data) (number : ℕ) (column : Column) (columns : List Column) (given : List (ℕ × Value)) : Type 0 where
  pub first : Value
  pub others : List (ℕ × Value)
  pub fits : Fitting choices column first
  pub rest : all_of (map (given_in json) (enumerate_from (number + 1) columns)) ≡ Some others
  pub is : given ≡ (number, first) ∷ others

starts : (choices : List Choice) (json : Data) (number : ℕ) (column : Column) (columns : List Column) (given : List (ℕ × Value)) → all_of (map (given_in json) (enumerate_from number (column ∷ columns))) ≡ Some given → Starts choices json number column columns given
starts choices json number column columns given e =
    let one = then_some (λ (first : ℕ × Value). option_map (λ others. first ∷ others) (all_of (map (given_in json) (enumerate_from (number + 1) columns)))) (given_in json (number, column)) given e in
    let rest = map_some (λ others. one.0 ∷ others) (all_of (map (given_in json) (enumerate_from (number + 1) columns))) given one.2 in
    let found = map_some (λ (v : Value). (number, v)) (option_and_then (value_of column.kind) (get column.name json)) one.0 one.1 in
    let got = then_some (value_of column.kind) (get column.name json) found.0 found.1 in
    record { first = found.0; others = rest.0; fits = fitting choices column got.0 found.0 got.2; rest = rest.1; is = sym rest.2 ∙ ap (λ (first : ℕ × Value). first ∷ rest.0) (sym found.2) }

-- The columns from this number on are those.
abbrev From : List Column → ℕ → List Column → Type 0
From all number columns = (k : ℕ) → slice_get all (number + k) ≡ slice_get columns k

later : (all : List Column) (number : ℕ) (column : Column) (columns : List Column) → From all number (column ∷ columns) → From all (number + 1) columns
later all number column columns from k = let same : (number + 1) + k ≡ number + suc k = omega arith in ap (slice_get all) same ∙ from (suc k)

pub given_right : (schema : Schema) (table : ℕ) (json : Data) (number : ℕ) (columns : List Column) (given : List (ℕ × Value)) → From (table_at schema table).columns number columns → all_of (map (given_in json) (enumerate_from number columns)) ≡ Some given → list_all (value_fits schema table) given ≡ true
given_right schema table json number [] given from e = let none : [] ≡ given = cc in subst (λ (g : List (ℕ × Value)). list_all (value_fits schema table) g ≡ true) none refl
given_right schema table json number (column ∷ columns) given from e =
    let found = starts schema.choices json number column columns given e in
    let here : slice_get (table_at schema table).columns number ≡ Some column = ap (slice_get (table_at schema table).columns) (sym (add-zero number)) ∙ from 0 in
    let first : value_fits schema table (number, found.first) ≡ true = ap (is_some_such (λ (one : Column). fits_column schema.choices one found.first)) here ∙ fits_own schema.choices column found.first found.fits in
    subst (λ (g : List (ℕ × Value)). list_all (value_fits schema table) g ≡ true) (sym found.is)
    (and_from (value_fits schema table (number, found.first)) (list_all (value_fits schema table) found.others) first
    (given_right schema table json (number + 1) columns found.others (later (table_at schema table).columns number column columns from) found.rest))

-- ---- the numbers of columns

abbrev pub numbers_of : ℕ → List Column → List ℕ
numbers_of number columns = map (λ numbered. numbered.0) (enumerate_from number columns)

-- a value is given for each column, in order
pub given_numbers : (choices : List Choice) (json : Data) (number : ℕ) (columns : List Column) (given : List (ℕ × Value)) → all_of (map (given_in json) (enumerate_from number columns)) ≡ Some given → map (λ one. one.0) given ≡ numbers_of number columns
given_numbers choices json number [] given e = let none : [] ≡ given = cc in ap (map (λ (one : ℕ × Value). one.0)) (sym none)
given_numbers choices json number (column ∷ columns) given e =
    let found = starts choices json number column columns given e in
    ap (map (λ (one : ℕ × Value). one.0)) found.is ∙ ap (λ (rest : List ℕ). number ∷ rest) (given_numbers choices json (number + 1) columns found.others found.rest)

none_before : (number after : ℕ) (columns : List Column) → number < after → is_one_of (numbers_of after columns) number ≡ false
none_before number after [] less = refl
none_before number after (column ∷ columns) less =
    let apart : (after == number) ≡ false = grind (arith, nat_tests) in
    let behind : number < after + 1 = omega (arith, less) in
    ap (λ b. b || is_one_of (numbers_of (after + 1) columns) number) apart ∙ none_before number (after + 1) columns behind

pub numbers_distinct : (number : ℕ) (columns : List Column) → are_distinct (numbers_of number columns) ≡ true
numbers_distinct number [] = refl
numbers_distinct number (column ∷ columns) =
    let behind : number < number + 1 = omega arith in
    and_from (not (is_one_of (numbers_of (number + 1) columns) number)) (are_distinct (numbers_of (number + 1) columns)) (ap not (none_before number (number + 1) columns behind)) (numbers_distinct (number + 1) columns)

pub numbers_ascend : (number : ℕ) (columns : List Column) → is_ascending (numbers_of number columns) ≡ true
numbers_ascend number [] = refl
numbers_ascend number (column ∷ []) = refl
numbers_ascend number (column ∷ next ∷ columns) =
    let less : nat_lt number (number + 1) ≡ true = grind (arith, nat_tests) in
    and_from (nat_lt number (number + 1)) (is_ascending (numbers_of (number + 1) (next ∷ columns))) less (numbers_ascend (number + 1) (next ∷ columns))

-- ---- each column is given

abbrev pub is_covered : List ℕ → (ℕ × Column) → Bool
is_covered numbers numbered = not (must_be_given numbered.1) || is_one_of numbers numbered.0

either_more : (a b c : Bool) → (a || b) ≡ true → (a || (c || b)) ≡ true
either_more true b c is = refl
either_more false b true is = refl
either_more false b false is = is

covered_more : (number : ℕ) (numbers : List ℕ) (columns : List (ℕ × Column)) → list_all (is_covered numbers) columns ≡ true → list_all (is_covered (number ∷ numbers)) columns ≡ true
covered_more number numbers [] all = refl
covered_more number numbers (one ∷ columns) all =
    let parts = and_parts (is_covered numbers one) (list_all (is_covered numbers) columns) all in
    and_from (is_covered (number ∷ numbers) one) (list_all (is_covered (number ∷ numbers)) columns) (either_more (not (must_be_given one.1)) (is_one_of numbers one.0) (number == one.0) parts.0) (covered_more number numbers columns parts.1)

either_last : (a b c : Bool) → b ≡ true → (a || (b || c)) ≡ true
either_last true b c is = refl
either_last false true c is = refl
either_last false false c is = absurd (true≢false (sym is))

pub all_covered : (number : ℕ) (columns : List Column) → list_all (is_covered (numbers_of number columns)) (enumerate_from number columns) ≡ true
all_covered number [] = refl
all_covered number (column ∷ columns) =
    and_from (is_covered (numbers_of number (column ∷ columns)) (number, column)) (list_all (is_covered (numbers_of number (column ∷ columns))) (enumerate_from (number + 1) columns))
    (either_last (not (must_be_given column)) (number == number) (is_one_of (numbers_of (number + 1) columns) number) (eq-eqb number number refl)) (covered_more number (numbers_of (number + 1) columns) (enumerate_from (number + 1) columns) (all_covered (number + 1) columns))

-- the numbers of the columns are below their count
pub numbers_within : (count number : ℕ) (columns : List Column) → number + length columns ≤ count → list_all (λ n. nat_lt n count) (map (λ numbered. numbered.0) (enumerate_from number columns)) ≡ true
numbers_within count number [] few = refl
numbers_within count number (column ∷ columns) few =
    let here : nat_lt number count ≡ true = grind (arith, nat_tests) in
    and_from _ _ here (numbers_within count (number + 1) columns (omega arith))
