-- Rows that are loaded by the values of a key.
use Rattle.std.proofs.Common.{◌≡◌, inl, inr, ℕ, zero, suc, ◌<◌, ◌≤◌, Bool, true, false, not, ◌&&◌, ◌||◌, List, [], ◌∷◌, ◌++◌, map, filter, length, Option, Some, None, unwrap_or, is_some, refl, sym, ap, subst, ◌∙◌, arith, true≢false}
use Rattle.std.specs.Prelude.{slice_get, find, nat_lt, IfSome, if◌then◌else◌}
use Rattle.std.specs.List.{list_any, list_all}
use Rattle.std.proofs.lemmas.Bool.{and_from, and_parts, or_parts, lt-ltb}
use Rattle.std.proofs.lemmas.List.{append-nil}
use Rattle.std.proofs.lemmas.Option.{slice_get_within}
use Rattle.qe_text.specs.Lists.{In}
use Rattle.qe_base.specs.declared.schema.Choice.{Choice}
use Rattle.qe_base.specs.declared.schema.Column.{Column}
use Rattle.qe_base.specs.declared.schema.Key.{Key}
use Rattle.qe_base.specs.declared.schema.Table.{Table}
use Rattle.qe_base.specs.declared.value.Row.{Row}
use Rattle.qe_base.specs.declared.value.Value.TheVariants.{Null}
use Rattle.qe_view.specs.After.{is_wanted, pair_row, rows_at, rows_in}
use Rattle.qe_view.specs.Right.{is_value_of, are_values_of, has_table, can_load, is_row_of}
use Rattle.qe_row_laws.proofs.Lists.{all_pass}
use Rattle.qe_schema.specs.Keys.{KeyStands}
use Rattle.qe_base.specs.Schemas.{Schema}
use Rattle.qe_schema.specs.Columns.{Values, is_null, has_null, are_same, value_at, at_columns, holds}
use Rattle.qe_schema.specs.Fits.{FitsSchema, fits_column, fit_columns}
use Rattle.qe_schema.specs.Tables.{Tables, table_at, is_model, is_model_table, is_link_table}
use Rattle.qe_ops.specs.Puts.{row_having}

-- ---- models

not_set : (b : Bool) → not b ≡ true → b ≡ false
not_set true is = sym is
not_set false is = refl

no_link_table : (o : Option Table) → is_model_table o ≡ true → is_link_table o ≡ false
no_link_table None is = refl
no_link_table (Some table) is = not_set table.link is

there_is : (o : Option Table) → is_model_table o ≡ true → (table : Table) × (o ≡ Some table)
there_is None is = absurd (true≢false (sym is))
there_is (Some table) is = (table, refl)

-- a model is a table of the schema
pub model_within : (schema : Schema) (table : ℕ) → is_model schema table ≡ true → table < length schema.tables
model_within schema table is = let found = there_is (slice_get schema.tables table) is in slice_get_within schema.tables table found.0 found.1

-- ---- what is loaded

pub first_found : {A : Type 0} (p : A → Bool) (xs : List A) → slice_get (filter p xs) 0 ≡ find p xs
first_found p [] = refl
first_found p (x ∷ xs) = elim (p x) as (λ b. slice_get (if b then x ∷ filter p xs else filter p xs) 0 ≡ (if b then Some x else find p xs)) [ true ↦ refl | false ↦ first_found p xs ]

pub is_some_find : {A : Type 0} (p : A → Bool) (xs : List A) → is_some (find p xs) ≡ list_any p xs
is_some_find p [] = refl
is_some_find p (x ∷ xs) = elim (p x) as (λ b. is_some (if b then Some x else find p xs) ≡ b || list_any p xs) [ true ↦ refl | false ↦ is_some_find p xs ]

or_false : (b : Bool) → (b || false) ≡ b
or_false true = refl
or_false false = refl

-- the rows of one key, in a model of tables that fit
rows_of_key : (schema : Schema) (table : ℕ) (columns : List ℕ) (key : Row) (tables : Tables) → FitsSchema schema tables → is_model schema table ≡ true
    → rows_at columns (key ∷ []) table tables ≡ filter (λ row. are_same (at_columns columns row) key.values) (tables.rows table)
rows_of_key schema table columns key tables fits model =
    let none : tables.pairs table ≡ [] = fits.links table (no_link_table (slice_get schema.tables table) model) in
    let all : rows_in tables table ≡ tables.rows table = ap (λ pairs. tables.rows table ++ map pair_row pairs) none ∙ append-nil (tables.rows table) in
    ap (filter (is_wanted columns (key ∷ []))) all ∙ (λ i. filter (λ row. or_false (are_same (at_columns columns row) key.values) i) (tables.rows table))

-- the first of the loaded rows is the row that has the key
pub row_loaded : (told : Option Tables) (schema : Schema) (table : ℕ) (columns : List ℕ) (key : Row) (found : List Row) (row : Option Row) → is_model schema table ≡ true → IfSome told (FitsSchema schema)
    → IfSome told (λ tables. found ≡ rows_at columns (key ∷ []) table tables) → row ≡ slice_get found 0 → IfSome told (λ tables. row ≡ row_having columns key.values (tables.rows table))
row_loaded None schema table columns key found row model fits rows first = tt
row_loaded (Some tables) schema table columns key found row model fits rows first =
    first ∙ ap (λ all. slice_get all 0) (rows ∙ rows_of_key schema table columns key tables fits model) ∙ first_found (λ one. are_same (at_columns columns one) key.values) (tables.rows table)

-- ---- what may be asked for

value_fits : (choices : List Choice) (columns : List Column) (values : Values) (number : ℕ) → fit_columns choices columns values ≡ true → number < length columns → is_null (unwrap_or (slice_get values number) Null) ≡ false
    → is_value_of choices (slice_get columns number) (unwrap_or (slice_get values number) Null) ≡ true
value_fits choices [] values number fit within some = absurd (omega arith)
value_fits choices (column ∷ columns) [] number fit within some = absurd (true≢false (sym fit))
value_fits choices (column ∷ columns) (one ∷ values) zero fit within some = and_from (not (is_null one)) (fits_column choices column one) (ap not some) (and_parts (fits_column choices column one) (fit_columns choices columns values) fit).0
value_fits choices (column ∷ columns) (one ∷ values) (suc number) fit within some =
    value_fits choices columns values number (and_parts (fits_column choices column one) (fit_columns choices columns values) fit).1 (let less : suc number < suc (length columns) = within in omega arith) some

-- what a row that fits has in columns, none of it null
values_fit : (choices : List Choice) (columns : List Column) (row : Row) (numbers : List ℕ) → fit_columns choices columns row.values ≡ true → ((number : ℕ) → In number numbers → number < length columns) → has_null (at_columns numbers row) ≡ false
    → are_values_of choices columns numbers (at_columns numbers row) ≡ true
unfolding In
values_fit choices columns row [] fit there some = refl
values_fit choices columns row (number ∷ numbers) fit there some =
    let parts = or_parts (is_null (value_at row number)) (has_null (at_columns numbers row)) some in
    and_from (is_value_of choices (slice_get columns number) (value_at row number)) (are_values_of choices columns numbers (at_columns numbers row)) (value_fits choices columns row.values number fit (there number (inl refl)) parts.0)
    (values_fit choices columns row numbers fit (λ other is_in. there other (inr is_in)) parts.1)

pub can_load_key : (schema : Schema) (table : ℕ) (columns : List ℕ) (values : Values) → is_model schema table ≡ true → 1 ≤ length columns → ((column : ℕ) → In column columns → column < length (table_at schema table).columns)
    → are_values_of schema.choices (table_at schema table).columns columns values ≡ true → can_load schema table columns (record { values = values } ∷ []) ≡ true
can_load_key schema table columns values model some there right =
    let has : has_table schema table ≡ true = lt-ltb table (length schema.tables) (model_within schema table model) in
    let any : nat_lt 0 (length columns) ≡ true = lt-ltb 0 (length columns) (omega arith) in
    let within : list_all (λ column. nat_lt column (length (table_at schema table).columns)) columns ≡ true = all_pass (λ column. nat_lt column (length (table_at schema table).columns)) columns (λ column is_in. lt-ltb column (length (table_at schema table).columns) (there column is_in)) in
    let keys : list_all (λ (key : Row). are_values_of schema.choices (table_at schema table).columns columns key.values) (record { values = values } ∷ []) ≡ true = and_from (are_values_of schema.choices (table_at schema table).columns columns values) true right refl in
    and_from _ _ (and_from _ _ (and_from _ _ has any) within) keys

-- the key of a row that fits its model
pub can_load_own : (schema : Schema) (table : ℕ) (key : Key) (row : Row) (columns : List ℕ) (values : Values) → is_row_of schema table row ≡ true → KeyStands (table_at schema table) key → columns ≡ key.columns → values ≡ at_columns key.columns row → has_null values ≡ false
    → can_load schema table columns (record { values = values } ∷ []) ≡ true
can_load_own schema table key row columns values right stands is values_are some =
    let parts = and_parts (is_model schema table) (fit_columns schema.choices (table_at schema table).columns row.values) right in
    let own : can_load schema table key.columns (record { values = at_columns key.columns row } ∷ []) ≡ true =
    can_load_key schema table key.columns (at_columns key.columns row) parts.0 stands.some stands.there (values_fit schema.choices (table_at schema table).columns row key.columns parts.1 stands.there (ap has_null (sym values_are) ∙ some)) in
    ap (λ numbers. can_load schema table numbers (record { values = values } ∷ [])) is ∙ ap (λ (found : Values). can_load schema table key.columns (record { values = found } ∷ [])) values_are ∙ own

-- ---- keys that are held

none_pass : {A : Type 0} (xs : List A) → false ≡ list_any (λ x. false) xs
none_pass [] = refl
none_pass (x ∷ xs) = none_pass xs

pub null_unheld : (told : Option Tables) (table : ℕ) (columns : List ℕ) (row : Row) (values : Values) → values ≡ at_columns columns row → has_null values ≡ true → IfSome told (λ tables. false ≡ list_any (holds columns (at_columns columns row)) (tables.rows table))
null_unheld None table columns row values is null = tt
null_unheld (Some tables) table columns row values is null =
    none_pass (tables.rows table) ∙ ap (λ b. list_any (λ other. not b && are_same (at_columns columns other) (at_columns columns row)) (tables.rows table)) (sym (ap has_null (sym is) ∙ null))

pub held_by : (told : Option Tables) (table : ℕ) (columns : List ℕ) (row : Row) (asked : List ℕ) (values : Values) (found : Option Row) (held : Bool) → asked ≡ columns → values ≡ at_columns columns row → has_null values ≡ false → held ≡ is_some found
    → IfSome told (λ tables. found ≡ row_having asked values (tables.rows table)) → IfSome told (λ tables. held ≡ list_any (holds columns (at_columns columns row)) (tables.rows table))
held_by None table columns row asked values found held asked_is is some held_is load = tt
held_by (Some tables) table columns row asked values found held asked_is is some held_is load =
    held_is ∙ ap is_some load ∙ ap (λ numbers. is_some (row_having numbers values (tables.rows table))) asked_is ∙ ap (λ own. is_some (row_having columns own (tables.rows table))) is
    ∙ is_some_find (λ other. are_same (at_columns columns other) (at_columns columns row)) (tables.rows table)
    ∙ ap (λ b. list_any (λ other. not b && are_same (at_columns columns other) (at_columns columns row)) (tables.rows table)) (sym (ap has_null (sym is) ∙ some))

-- ---- rows that fit

-- the first of items that all pass
pub first_passes : {A : Type 0} (p : A → Bool) (xs : List A) (first : Option A) → list_all p xs ≡ true → first ≡ slice_get xs 0 → IfSome first (λ x. p x ≡ true)
first_passes p [] first all is = subst (λ o. IfSome o (λ x. p x ≡ true)) (sym is) tt
first_passes p (x ∷ xs) first all is = subst (λ o. IfSome o (λ y. p y ≡ true)) (sym is) (and_parts (p x) (list_all p xs) all).0
