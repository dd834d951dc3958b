-- What an operation that fits asks of a view.
use Rattle.std.proofs.Common.{◌≡◌, ℕ, Bool, true, false, not, ◌&&◌, ◌||◌, List, [], ◌∷◌, Option, Some, None, refl, sym, ap, subst, ◌∙◌, true≢false}
use Rattle.std.specs.Prelude.{slice_get, find, IfSome}
use Rattle.std.proofs.lemmas.Bool.{and_from, and_parts, or_from}
use Rattle.qe_base.specs.declared.query.Pick.{Pick}
use Rattle.qe_base.specs.declared.query.Unique.{Unique}
use Rattle.qe_base.specs.declared.schema.Choice.{Choice}
use Rattle.qe_base.specs.declared.schema.Column.{Column}
use Rattle.qe_base.specs.declared.schema.Key.{Key}
use Rattle.qe_base.specs.declared.schema.Table.{Table}
use Rattle.qe_base.specs.declared.value.Row.{Row}
use Rattle.qe_base.specs.declared.value.TableId.{TableId}
use Rattle.qe_base.specs.declared.value.Value.{Value}
use Rattle.qe_base.specs.declared.value.Value.TheVariants as value
use Rattle.qe_base.specs.declared.write.Create.{Create}
use Rattle.qe_base.specs.declared.write.Op.TheVariants as op
use Rattle.qe_view.specs.Right.{is_value_of, are_values_of, can_load, is_row_of}
use Rattle.qe_reading.specs.CarriedOut.{is_carried_out}
use Rattle.qe_reading.specs.Fits.{are_key_values, key_fits, filter_fits, unique_fits, pick_fits, read_fits}
use Rattle.qe_reading.specs.Page.{columns_of}
use Rattle.qe_reading.specs.Related.{is_some_such}
use Rattle.qe_writing.specs.Parts.{is_few}
use Rattle.qe_writing.specs.WriteFits.{op_fits}
use Rattle.qe_writing.proofs.Models.{operation_model}
use Rattle.qe_schema.proofs.Members.{in_place}
use Rattle.qe_schema.specs.Keys.{HasKeys, KeyStands}
use Rattle.qe_base.specs.Schemas.{Schema}
use Rattle.qe_schema.specs.Columns.{Values, is_null, has_null, are_same, at_columns}
use Rattle.qe_schema.specs.Fits.{is_of_kind, fits_column, fit_columns}
use Rattle.qe_schema.specs.Tables.{Tables, table_at, is_model}
use Rattle.qe_ops.specs.Puts.{row_having}
use Rattle.qe_ops.proofs.CreateLaws.{row_for}
use Rattle.qe_ops.proofs.NewRows.{new_row_fits}
use Rattle.qe_ops.proofs.FindLaws.{row_with}
use Rattle.qe_ops.proofs.Keyed.{can_load_key}

-- ---- the values of a key

is_value : (choices : List Choice) (column : Option Column) (one : Value) → is_some_such (λ found. is_of_kind choices found.kind one) column ≡ true → is_value_of choices column one ≡ true
is_value choices None one right = right
is_value choices (Some column) value.Null right = right
is_value choices (Some column) (value.Text text) right = right
is_value choices (Some column) (value.Bool truth) right = right
is_value choices (Some column) (value.Int number) right = right
is_value choices (Some column) (value.Moment moment) right = right
is_value choices (Some column) (value.Blob bytes) right = right
is_value choices (Some column) (value.Member member) right = right

pub key_values_are : (schema : Schema) (table : ℕ) (numbers : List ℕ) (values : Values) → are_key_values schema table numbers values ≡ true → are_values_of schema.choices (table_at schema table).columns numbers values ≡ true
key_values_are schema table [] [] right = refl
key_values_are schema table [] (one ∷ values) right = right
key_values_are schema table (number ∷ numbers) [] right = right
key_values_are schema table (number ∷ numbers) (one ∷ values) right =
    let column : Option Column = slice_get (table_at schema table).columns number in
    let parts = and_parts (is_some_such (λ (found : Column). is_of_kind schema.choices found.kind one) column) (are_key_values schema table numbers values) right in
    and_from (is_value_of schema.choices column one) (are_values_of schema.choices (table_at schema table).columns numbers values) (is_value schema.choices column one parts.0) (key_values_are schema table numbers values parts.1)

not_set : (b : Bool) → not b ≡ true → b ≡ false
not_set true is = sym is
not_set false is = refl

not_null : (choices : List Choice) (column : Option Column) (one : Value) → is_value_of choices column one ≡ true → is_null one ≡ false
not_null choices None one right = absurd (true≢false (sym right))
not_null choices (Some column) one right = not_set (is_null one) (and_parts (not (is_null one)) (fits_column choices column one) right).0

no_nulls : (choices : List Choice) (columns : List Column) (numbers : List ℕ) (values : Values) → are_values_of choices columns numbers values ≡ true → has_null values ≡ false
no_nulls choices columns [] [] right = refl
no_nulls choices columns [] (one ∷ values) right = absurd (true≢false (sym right))
no_nulls choices columns (number ∷ numbers) [] right = absurd (true≢false (sym right))
no_nulls choices columns (number ∷ numbers) (one ∷ values) right =
    let parts = and_parts (is_value_of choices (slice_get columns number) one) (are_values_of choices columns numbers values) right in
    or_from (is_null one) (has_null values) (not_null choices (slice_get columns number) one parts.0) (no_nulls choices columns numbers values parts.1)

-- ---- a find

abbrev pub IsFitting : Schema → TableId → Unique → Bool → Pick → Type 0
IsFitting schema table at strict pick = op_fits schema (op.FindUnique table at strict pick) ≡ true

record Named (schema : Schema) (table : ℕ) (at : Unique) : Type 0 where
  key : Key
  is : slice_get (table_at schema table).keys at.key ≡ Some key
  right : are_values_of schema.choices (table_at schema table).columns key.columns at.values.values ≡ true

named_in : (schema : Schema) (table : ℕ) (at : Unique) (o : Option Key) → slice_get (table_at schema table).keys at.key ≡ o → is_some_such (λ (key : Key). are_key_values schema table key.columns at.values.values) o ≡ true → Named schema table at
named_in schema table at None is right = absurd (true≢false (sym right))
named_in schema table at (Some key) is right = record { key = key; is = is; right = key_values_are schema table key.columns at.values.values right }

or_false : (b : Bool) → (b || false) ≡ true → b ≡ true
or_false true is = is
or_false false is = is

named : (schema : Schema) (table : TableId) (at : Unique) (strict : Bool) (pick : Pick) → IsFitting schema table at strict pick → Named schema table.0 at
named schema table at strict pick fits =
    let reads = or_false (read_fits schema (op.FindUnique table at strict pick)) (and_parts (read_fits schema (op.FindUnique table at strict pick) || false) (is_few 0) fits).0 in
    let unique = (and_parts _ (unique_fits schema at table.0) (and_parts _ (pick_fits schema pick table.0) reads).0).1 in
    named_in schema table.0 at (slice_get (table_at schema table.0).keys at.key) refl (and_parts (key_fits schema at table.0) (filter_fits schema at.extra table.0) unique).0

pub find_of_model : (schema : Schema) (table : TableId) (at : Unique) (strict : Bool) (pick : Pick) → IsFitting schema table at strict pick → is_model schema table.0 ≡ true
find_of_model schema table at strict pick fits = operation_model schema (op.FindUnique table at strict pick) fits

-- the key of a unique may be asked for
pub unique_loads : (schema : Schema) (table : TableId) (at : Unique) (strict : Bool) (pick : Pick) (model : Table) (columns : List ℕ) (values : Values) → IsFitting schema table at strict pick → model ≡ table_at schema table.0 → HasKeys model
    → columns ≡ columns_of (slice_get model.keys at.key) → values ≡ at.values.values → can_load schema table.0 columns (record { values = values } ∷ []) ≡ true
unique_loads schema table at strict pick model columns values fits model_is keys columns_are values_are =
    let found = named schema table at strict pick fits in
    let stands : KeyStands (table_at schema table.0) found.key = (subst HasKeys model_is keys).stand found.key (in_place (table_at schema table.0).keys at.key found.key found.is) in
    let own : can_load schema table.0 found.key.columns (record { values = at.values.values } ∷ []) ≡ true =
    can_load_key schema table.0 found.key.columns at.values.values (find_of_model schema table at strict pick fits) stands.some stands.there found.right in
    let numbers_are : columns ≡ found.key.columns = columns_are ∙ ap (λ (m : Table). columns_of (slice_get m.keys at.key)) model_is ∙ ap columns_of found.is in
    ap (λ numbers. can_load schema table.0 numbers (record { values = values } ∷ [])) numbers_are ∙ ap (λ (all : Values). can_load schema table.0 found.key.columns (record { values = all } ∷ [])) values_are ∙ own

-- the row of the key is the one that the unique asks for
pub row_asked : (told : Option Tables) (schema : Schema) (table : TableId) (at : Unique) (strict : Bool) (pick : Pick) (model : Table) (columns : List ℕ) (values : Values) (row : Option Row) → IsFitting schema table at strict pick → model ≡ table_at schema table.0
    → columns ≡ columns_of (slice_get model.keys at.key) → values ≡ at.values.values → IfSome told (λ tables. row ≡ row_having columns values (tables.rows table.0)) → IfSome told (λ tables. row ≡ row_with (table_at schema table.0) at (tables.rows table.0))
row_asked None schema table at strict pick model columns values row fits model_is columns_are values_are is = tt
row_asked (Some tables) schema table at strict pick model columns values row fits model_is columns_are values_are is =
    let found = named schema table at strict pick fits in
    let numbers : List ℕ = columns_of (slice_get (table_at schema table.0).keys at.key) in
    let none : has_null at.values.values ≡ false = no_nulls schema.choices (table_at schema table.0).columns found.key.columns at.values.values found.right in
    is ∙ ap (λ asked. row_having asked values (tables.rows table.0)) (columns_are ∙ ap (λ (m : Table). columns_of (slice_get m.keys at.key)) model_is) ∙ ap (λ all. row_having (columns_of (slice_get (table_at schema table.0).keys at.key)) all (tables.rows table.0)) values_are
    ∙ ap (λ b. find (λ other. not b && are_same (at_columns (columns_of (slice_get (table_at schema table.0).keys at.key)) other) at.values.values) (tables.rows table.0)) (sym none)

-- ---- the row of a create

pub created_is_row : (schema : Schema) (table : TableId) (tree : Create) (pick : Pick) (row : Row) → op_fits schema (op.Create table tree pick) ≡ true → is_carried_out schema (op.Create table tree pick) ≡ true → row ≡ row_for schema table.0 tree → is_row_of schema table.0 row ≡ true
created_is_row schema table tree pick row fits carried is =
    and_from (is_model schema table.0) _ (operation_model schema (op.Create table tree pick) fits)
    (ap (λ (one : Row). fit_columns schema.choices (table_at schema table.0).columns one.values) is ∙ new_row_fits schema table tree pick fits carried)
