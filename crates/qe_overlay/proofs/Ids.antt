-- The id of a row that is right has no null.
use Rattle.std.proofs.Common.{◌≡◌, ℕ, zero, suc, ◌<◌, Bool, true, false, ◌&&◌, not, cond, List, [], ◌∷◌, length, unwrap_or, refl, sym, ◌∙◌, true≢false, inl, inr, arith}
use Rattle.std.specs.Prelude.{slice_get, IfSome}
use Rattle.std.proofs.lemmas.Bool.{and_parts, and_from}
use Rattle.qe_text.specs.Lists.{In}
use Rattle.qe_base.specs.declared.schema.Choice.{Choice}
use Rattle.qe_base.specs.declared.schema.Column.{Column}
use Rattle.qe_base.specs.declared.schema.Key.{Key}
use Rattle.qe_base.specs.declared.schema.Table.{Table}
use Rattle.qe_base.specs.declared.value.Row.{Row}
use Rattle.qe_base.specs.declared.value.Value.TheVariants.{Null}
use Rattle.qe_view.specs.Right.{is_value_of, are_values_of, is_row_of, is_id_of}
use Rattle.qe_overlay.specs.Laid.{id_row}
use Rattle.qe_schema.specs.Keys.{HasKeys}
use Rattle.qe_base.specs.Schemas.{Schema}
use Rattle.qe_schema.specs.Sound.{IsSound}
use Rattle.qe_schema.specs.Columns.{Values, is_null, at_columns, value_at}
use Rattle.qe_schema.specs.Fits.{fit_columns, fits_column, is_of_kind}
use Rattle.qe_schema.specs.Tables.{no_table, table_at, is_model, is_model_table, id_columns, first_columns}

required_fits : (null optional kind : Bool) → optional ≡ false → cond null optional kind ≡ true → not null && cond null optional kind ≡ true
required_fits true optional kind required fits = absurd (true≢false (sym fits ∙ required))
required_fits false optional kind required fits = fits

value_is : (choices : List Choice) (columns : List Column) (values : Values) (column : ℕ) → column < length columns → IfSome (slice_get columns column) (λ (found : Column). found.optional ≡ false) → fit_columns choices columns values ≡ true
    → is_value_of choices (slice_get columns column) (unwrap_or (slice_get values column) Null) ≡ true
value_is choices [] values column within required fits = absurd (omega arith)
value_is choices (one ∷ columns) [] column within required fits = absurd (true≢false (sym fits))
value_is choices (one ∷ columns) (value ∷ values) zero within required fits =
    required_fits (is_null value) one.optional (is_of_kind choices one.kind value) required (and_parts (fits_column choices one value) (fit_columns choices columns values) fits).0
value_is choices (one ∷ columns) (value ∷ values) (suc column) within required fits = value_is choices columns values column (omega arith) required (and_parts (fits_column choices one value) (fit_columns choices columns values) fits).1

values_are : (choices : List Choice) (columns : List Column) (row : Row) (numbers : List ℕ) → ((column : ℕ) → In column numbers → is_value_of choices (slice_get columns column) (value_at row column) ≡ true) → are_values_of choices columns numbers (at_columns numbers row) ≡ true
unfolding In
values_are choices columns row [] each = refl
values_are choices columns row (number ∷ numbers) each = and_from _ _ (each number (inl refl)) (values_are choices columns row numbers (λ column is_in. each column (inr is_in)))

table_in : (tables : List Table) (number : ℕ) → is_model_table (slice_get tables number) ≡ true → In (unwrap_or (slice_get tables number) no_table) tables
unfolding In
table_in [] number is = absurd (true≢false (sym is))
table_in (table ∷ tables) zero is = inl refl
table_in (table ∷ tables) (suc number) is = inr (table_in tables number is)

there : (table : Table) → HasKeys table → (column : ℕ) → In column (id_columns table) → column < length table.columns
unfolding In
there table keys column is_in = by table.keys (λ key among. (keys.stand key among).there column) is_in
  where
    by : (all : List Key) → ((key : Key) → In key all → In column key.columns → column < length table.columns) → In column (first_columns all) → column < length table.columns
    by [] each is_in = absurd is_in
    by (key ∷ all) each is_in = each key (inl refl) is_in

-- each row that is right for a model has an id that is right
pub have_ids : (schema : Schema) → IsSound schema → (table : ℕ) (row : Row) → is_row_of schema table row ≡ true → is_id_of schema table (id_row (table_at schema table) row) ≡ true
have_ids schema is table row right =
    let parts = and_parts (is_model schema table) (fit_columns schema.choices (table_at schema table).columns row.values) right in
    let known = table_in schema.tables table parts.0 in
    and_from _ _ parts.0 (values_are schema.choices (table_at schema table).columns row (id_columns (table_at schema table))
    (λ column is_in. value_is schema.choices (table_at schema table).columns row.values column (there (table_at schema table) (is.keys (table_at schema table) known) column is_in) (is.ids (table_at schema table) known column is_in) parts.1))
