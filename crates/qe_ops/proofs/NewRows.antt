-- The row of a create that fits and is carried out so far is one of its model.
use Rattle.std.proofs.Common.{◌≡◌, ℕ, suc, ◌+◌, Bool, true, false, not, cond, ◌&&◌, ◌||◌, List, [], ◌∷◌, ◌++◌, map, Option, Some, None, unwrap_or, is_some, refl, sym, ap, subst, ◌∙◌, true≢false, arith, add-zero}
use Rattle.std.specs.Prelude.{slice_get, find, option_map, ◌==◌, IfSome}
use Rattle.std.specs.List.{list_all, enumerate_from}
use Rattle.std.proofs.lemmas.Bool.{and_from, and_parts, eqb-true}
use Rattle.std.proofs.lemmas.List.{append-nil}
use Rattle.qe_base.specs.declared.query.Pick.{Pick}
use Rattle.qe_base.specs.declared.schema.Column.{Column}
use Rattle.qe_base.specs.declared.schema.Fill.{Fill}
use Rattle.qe_base.specs.declared.schema.Fill.TheVariants.{Absent, Literal, Counter, Now, Uuid}
use Rattle.qe_base.specs.declared.schema.Table.{Table}
use Rattle.qe_base.specs.declared.value.TableId.{TableId}
use Rattle.qe_base.specs.declared.value.Value.{Value}
use Rattle.qe_base.specs.declared.value.Value.TheVariants.{Null}
use Rattle.qe_base.specs.declared.write.Create.{Create, out-Create}
use Rattle.qe_base.specs.declared.write.Nested.{Nested}
use Rattle.qe_base.specs.declared.write.Op.TheVariants as op
use Rattle.qe_base.specs.Schemas.{Schema}
use Rattle.qe_schema.specs.Fits.{fits_column, fit_columns}
use Rattle.qe_schema.specs.Tables.{table_at, is_model}
use Rattle.qe_reading.specs.CarriedOut.{is_carried_out, is_simple, is_simple_column, is_simple_kind, has_no_fill, picks_columns}
use Rattle.qe_reading.specs.Fits.{is_empty, pick_fits}
use Rattle.qe_reading.specs.Related.{is_some_such}
use Rattle.qe_writing.specs.Fill.{given_for}
use Rattle.qe_writing.specs.Numbers.{is_one_of, are_distinct}
use Rattle.qe_writing.specs.Parts.{is_few, op_parts}
use Rattle.qe_writing.specs.WriteFits.{FittingCreate, value_fits, must_be_given, is_absent, are_enough, taken_columns, nested_fit, create_fits, write_fits, op_fits}
use Rattle.qe_writing.proofs.FitLayers.{nested_fits}
use Rattle.qe_writing.proofs.Models.{create_fits_out}
use Rattle.qe_ops.proofs.CreateLaws.{value_for, row_for}

-- ---- what is given for a column

given_fits : (p : (ℕ × Value) → Bool) (number : ℕ) (given : List (ℕ × Value)) → list_all p given ≡ true → IfSome (given_for number given) (λ one. p (number, one) ≡ true)
given_fits p number [] all = tt
given_fits p number (one ∷ given) all = by_test (one.0 == number) refl (given_fits p number given (and_parts (p one) (list_all p given) all).1)
  where
    by_test : (b : Bool) → (one.0 == number) ≡ b → IfSome (given_for number given) (λ found. p (number, found) ≡ true) → IfSome (option_map (λ other. other.1) (cond b (Some one) (find (λ other. other.0 == number) given))) (λ found. p (number, found) ≡ true)
    by_test true is behind = ap (λ n. p (n, one.1)) (sym (eqb-true one.0 number is)) ∙ (and_parts (p one) (list_all p given) all).0
    by_test false is behind = behind

given_there : (number : ℕ) (given : List (ℕ × Value)) → is_one_of (map (λ one. one.0) given) number ≡ true → given_for number given ≡ None → ⊥
given_there number [] some none = true≢false (sym some)
given_there number (one ∷ given) some none = by_test (one.0 == number) refl none (given_there number given)
  where
    by_test : (b : Bool) → (one.0 == number) ≡ b → option_map (λ other. other.1) (cond b (Some one) (find (λ other. other.0 == number) given)) ≡ None → (is_one_of (map (λ other. other.0) given) number ≡ true → given_for number given ≡ None → ⊥) → ⊥
    by_test true is nothing behind = true≢false (ap is_some nothing)
    by_test false is nothing behind = behind (ap (λ b. b || is_one_of (map (λ other. other.0) given) number) (sym is) ∙ some) nothing

-- ---- simple columns

no_fill_is_absent : (fill : Fill) → has_no_fill fill ≡ true → is_absent fill ≡ true
no_fill_is_absent Absent none = refl
no_fill_is_absent (Literal value) none = none
no_fill_is_absent Counter none = none
no_fill_is_absent Now none = none
no_fill_is_absent Uuid none = none

simple_must : (column : Column) → is_simple_column column ≡ true → must_be_given column ≡ true
simple_must column simple =
    let parts = and_parts (is_simple_kind column.kind && not column.optional && has_no_fill column.fill) (not column.updated) simple in
    let own = and_parts (is_simple_kind column.kind && not column.optional) (has_no_fill column.fill) parts.0 in
    and_from (not column.optional && not column.updated) (is_absent column.fill) (and_from (not column.optional) (not column.updated) (and_parts (is_simple_kind column.kind) (not column.optional) own.0).1 parts.1) (no_fill_is_absent column.fill own.1)

not_then : (a b : Bool) → (not a || b) ≡ true → a ≡ true → b ≡ true
not_then true b either is = either
not_then false b either is = absurd (true≢false (sym is))

-- the columns from this number on are those
abbrev From : List Column → ℕ → List Column → Type 0
From all number columns = (k : ℕ) → slice_get all (number + k) ≡ slice_get columns k

later : (all : List Column) (number : ℕ) (column : Column) (columns : List Column) → From all number (column ∷ columns) → From all (number + 1) columns
later all number column columns from k = let same : (number + 1) + k ≡ number + suc k = omega arith in ap (slice_get all) same ∙ from (suc k)

abbrev is_covered : List (ℕ × Value) → (ℕ × Column) → Bool
is_covered given numbered = not (must_be_given numbered.1) || is_one_of (map (λ one. one.0) given) numbered.0

one_fits : (schema : Schema) (table : ℕ) (given : List (ℕ × Value)) (number : ℕ) (column : Column) → slice_get (table_at schema table).columns number ≡ Some column → list_all (value_fits schema table) given ≡ true → is_covered given (number, column) ≡ true → is_simple_column column ≡ true
    → fits_column schema.choices column (unwrap_or (given_for number given) Null) ≡ true
one_fits schema table given number column at fit covered simple = by_given (given_for number given) refl (given_fits (value_fits schema table) number given fit)
  where
    by_given : (o : Option Value) → given_for number given ≡ o → IfSome o (λ one. value_fits schema table (number, one) ≡ true) → fits_column schema.choices column (unwrap_or o Null) ≡ true
    by_given None none right = absurd (given_there number given (not_then (must_be_given column) (is_one_of (map (λ one. one.0) given) number) covered (simple_must column simple)) none)
    by_given (Some one) some right = subst (λ (o : Option Column). is_some_such (λ found. fits_column schema.choices found one) o ≡ true) at right

columns_fit : (schema : Schema) (table : ℕ) (given : List (ℕ × Value)) (number : ℕ) (columns : List Column) → From (table_at schema table).columns number columns → list_all (value_fits schema table) given ≡ true → list_all (is_covered given) (enumerate_from number columns) ≡ true
    → list_all is_simple_column columns ≡ true → fit_columns schema.choices columns (map (value_for given) (enumerate_from number columns)) ≡ true
columns_fit schema table given number [] from fit covered simple = refl
columns_fit schema table given number (column ∷ columns) from fit covered simple =
    let here : slice_get (table_at schema table).columns number ≡ Some column = ap (slice_get (table_at schema table).columns) (sym (add-zero number)) ∙ from 0 in
    let cover = and_parts (is_covered given (number, column)) (list_all (is_covered given) (enumerate_from (number + 1) columns)) covered in
    let both = and_parts (is_simple_column column) (list_all is_simple_column columns) simple in
    and_from (fits_column schema.choices column (value_for given (number, column))) (fit_columns schema.choices columns (map (value_for given) (enumerate_from (number + 1) columns))) (one_fits schema table given number column here fit cover.0 both.0)
    (columns_fit schema table given (number + 1) columns (later (table_at schema table).columns number column columns from) fit cover.1 both.1)

-- ---- the row

nothing_taken : (schema : Schema) (table : ℕ) (nested : List Nested) → is_empty nested ≡ true → taken_columns schema table (map (nested_fits schema) nested) ≡ []
nothing_taken schema table [] empty = refl
nothing_taken schema table (one ∷ nested) empty = absurd (true≢false (sym empty))

pub new_row_fits : (schema : Schema) (table : TableId) (tree : Create) (pick : Pick) → op_fits schema (op.Create table tree pick) ≡ true → is_carried_out schema (op.Create table tree pick) ≡ true
    → fit_columns schema.choices (table_at schema table.0).columns (row_for schema table.0 tree).values ≡ true
new_row_fits schema table tree pick fits carried =
    let model : Table = table_at schema table.0 in
    let given : List (ℕ × Value) = (out-Create tree).values in
    let nested : List Nested = (out-Create tree).nested in
    let own = and_parts (is_simple model && is_empty nested) (picks_columns pick) carried in
    let simple = and_parts (is_simple model) (is_empty nested) own.0 in
    let columns = (and_parts (not model.link) (list_all is_simple_column model.columns) (and_parts (not model.link && list_all is_simple_column model.columns) _ simple.0).0).1 in
    let writes = (and_parts (write_fits schema (op.Create table tree pick)) (is_few (op_parts (op.Create table tree pick))) fits).0 in
    let tree_fits = (and_parts ((create_fits schema tree).fits table.0 []) (pick_fits schema pick table.0) writes).0 in
    let opened = sym (ap (λ (fit : FittingCreate). fit.fits table.0 []) (create_fits_out schema tree)) ∙ tree_fits in
    let parts = and_parts _ (are_distinct (map (λ one. one.0) given ++ [] ++ taken_columns schema table.0 (map (nested_fits schema) nested)) && are_enough schema table.0 (map (λ one. one.0) given ++ [] ++ taken_columns schema table.0 (map (nested_fits schema) nested))) opened in
    let values = (and_parts (is_model schema table.0) (list_all (value_fits schema table.0) given) (and_parts _ (nested_fit true table.0 (map (nested_fits schema) nested)) parts.0).0).1 in
    let enough = (and_parts (are_distinct (map (λ one. one.0) given ++ [] ++ taken_columns schema table.0 (map (nested_fits schema) nested))) _ parts.1).1 in
    let all : map (λ (one : ℕ × Value). one.0) given ++ [] ++ taken_columns schema table.0 (map (nested_fits schema) nested) ≡ map (λ (one : ℕ × Value). one.0) given =
    ap (λ (taken : List ℕ). map (λ (one : ℕ × Value). one.0) given ++ [] ++ taken) (nothing_taken schema table.0 nested simple.1) ∙ append-nil (map (λ (one : ℕ × Value). one.0) given ++ []) ∙ append-nil (map (λ (one : ℕ × Value). one.0) given) in
    columns_fit schema table.0 given 0 model.columns (λ k. ap (slice_get model.columns) (let same : 0 + k ≡ k = omega arith in same)) values (subst (λ (numbers : List ℕ). are_enough schema table.0 numbers ≡ true) all enough) columns
