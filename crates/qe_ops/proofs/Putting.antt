-- Rows that are put, and counters that are raised for them.
use Rattle.std.proofs.Common.{◌≡◌, ℕ, ℤ, pos, Bool, true, false, cond, Option, Some, None, Ok, refl, sym, ap, subst, ◌∙◌, arith}
use Rattle.std.specs.Prelude.{◌==◌, int_lt, option_map, IfSome, if◌then◌else◌}
use Rattle.std.specs.Int.{int_max}
use Rattle.std.specs.List.{list_all}
use Rattle.std.proofs.lemmas.Bool.{and_parts, eqb-true}
use Rattle.std.proofs.lemmas.Int.{ints}
use Rattle.qe_base.specs.declared.schema.Table.{Table}
use Rattle.qe_base.specs.declared.value.Row.{Row}
use Rattle.qe_base.specs.declared.value.TableId.{TableId}
use Rattle.qe_base.specs.declared.value.Value.{Value}
use Rattle.qe_base.specs.declared.value.Value.TheVariants as value
use Rattle.qe_view.specs.After.{after}
use Rattle.qe_view.specs.Right.{is_row_of}
use Rattle.qe_view.specs.declared.changes.Change.TheVariants.{Put, Counter}
use Rattle.qe_row_laws.proofs.Lists.{all_pass}
use Rattle.qe_row_laws.proofs.Puts.{at_most, all_within, greatest_last, new_rows_fit}
use Rattle.qe_schema.proofs.Members.{passes}
use Rattle.qe_base.specs.Schemas.{Schema}
use Rattle.qe_schema.specs.Columns.{value_at}
use Rattle.qe_schema.specs.Fits.{FitsSchema, Counts, at_number, counting, fit_columns, is_within}
use Rattle.qe_schema.specs.Put.{broken_key, put_of, put_unless, raised, raised_at, raised_to}
use Rattle.qe_schema.specs.Tables.{Tables, table_at, is_model, id_columns, with_last}
use Rattle.qe_view.specs.Versions.{Viewed, changed}
use Rattle.qe_ops.specs.Leaves.{CanGoBack, ChangesTo, Same}
use Rattle.qe_ops.specs.Puts.{IsUnheld, number_at, placed, raised_for, whole_number}
use Rattle.qe_ops.proofs.Versions.{back_to_itself, back_over, from_same, reaches_over}

-- ---- the greater of two numbers

int_max_turned : (x y : ℤ) → int_max x y ≡ int_max y x
int_max_turned x y = by_tests (int_lt y x) (int_lt x y) refl refl
  where
    by_tests : (b c : Bool) → int_lt y x ≡ b → int_lt x y ≡ c → cond b x y ≡ cond c y x
    by_tests true true less more = absurd (omega (arith, ints))
    by_tests true false less more = refl
    by_tests false true less more = refl
    by_tests false false less more = omega (arith, ints)

-- ---- the number of a row

abbrev raised_by : Option ℤ → ℤ → ℤ
raised_by None last = last
raised_by (Some number) last = int_max last number

by_value : (v : Value) (last : ℤ) → raised_to v last ≡ raised_by (whole_number v) last
by_value value.Null last = refl
by_value (value.Text text) last = refl
by_value (value.Bool truth) last = refl
by_value (value.Int number) last = refl
by_value (value.Moment moment) last = refl
by_value (value.Blob bytes) last = refl
by_value (value.Member member) last = refl

by_number : (column : Option ℕ) (row : Row) (last : ℤ) → raised_at column row last ≡ raised_by (number_at column row) last
by_number None row last = refl
by_number (Some column) row last = by_value (value_at row column) last

abbrev pub own_number : Table → Row → Option ℤ
own_number table row = number_at (counting table.columns (id_columns table)) row

raised_with : (table : Table) (row : Row) (last : ℤ) (number : Option ℤ) → own_number table row ≡ number → raised table row last ≡ raised_by number last
raised_with table row last number is = by_number (counting table.columns (id_columns table)) row last ∙ ap (λ own. raised_by own last) is

-- ---- the counter stays

with_same : (table : ℕ) (last : ℤ) (tables : Tables) → last ≡ tables.last table → with_last table last tables ≡ tables
with_same table last tables is = λ i. record tables { last = λ t. by_test t (t == table) refl i }
  where
    by_test : (t : ℕ) (b : Bool) → (t == table) ≡ b → (if b then last else tables.last t) ≡ tables.last t
    by_test t true same = is ∙ ap tables.last (sym (eqb-true t table same))
    by_test t false same = refl

unraised : (told : Option Tables) (schema : Schema) (table : ℕ) (row : Row) → IfSome told (λ tables. raised (table_at schema table) row (tables.last table) ≡ tables.last table) → told ≡ option_map (raised_for schema table row) told
unraised None schema table row is = refl
unraised (Some tables) schema table row is = ap Some (sym (with_same table (raised (table_at schema table) row (tables.last table)) tables is))

each_told : (told : Option Tables) (P : Tables → Type 0) → ((tables : Tables) → P tables) → IfSome told P
each_told None P each = tt
each_told (Some tables) P each = each tables

-- a row without a number
pub no_number : (seen : Viewed) (schema : Schema) (table : ℕ) (model : Table) (row : Row) → model ≡ table_at schema table → own_number model row ≡ None → ChangesTo (raised_for schema table row) seen seen
no_number seen schema table model row model_is none = record {
  now = unraised seen.now schema table row (each_told seen.now _ (λ tables. raised_with (table_at schema table) row (tables.last table) None (subst (λ (m : Table). own_number m row ≡ None) model_is none)));
  back = back_to_itself seen;
}

-- ---- the counter is raised

mapped_same : (one other : Tables → Tables) (told : Option Tables) → ((tables : Tables) → one tables ≡ other tables) → option_map one told ≡ option_map other told
mapped_same one other None is = refl
mapped_same one other (Some tables) is = ap Some (is tables)

-- the change leads to told tables that fit
abbrev pub FitAfter : Schema → (Tables → Tables) → Option Tables → Type 0
FitAfter schema change told = IfSome told (λ tables. FitsSchema schema (change tables))

-- a raised counter of a model whose rows have numbers
pub counter_fits : (told : Option Tables) (schema : Schema) (table : TableId) (row : Row) (number : ℤ) → IfSome told (FitsSchema schema) → own_number (table_at schema table.0) row ≡ Some number → FitAfter schema (after schema (Counter table number)) told
counter_fits None schema table row number fits own = tt
counter_fits (Some tables) schema table row number fits own = record {
  models = fits.models;
  kinds = fits.kinds;
  order = fits.order;
  keys = fits.keys;
  counters = λ t. counters t (t == table.0) refl;
  links = fits.links;
  pair_kinds = fits.pair_kinds;
  pair_order = fits.pair_order;
}
  where
    last : ℤ
    last = tables.last table.0

    higher : int_lt (int_max number (tables.last table.0)) (tables.last table.0) ≡ false
    higher = ap (λ n. int_lt n (tables.last table.0)) (int_max_turned number (tables.last table.0)) ∙ greatest_last (tables.last table.0) number

    columns : Option ℕ
    columns = counting (table_at schema table.0).columns (id_columns (table_at schema table.0))

    here : Counts (table_at schema table.0) (tables.last table.0) (tables.rows table.0) → Counts (table_at schema table.0) (int_max number (tables.last table.0)) (tables.rows table.0)
    here (within, positive, none) = (
      all_pass (λ (one : Row). list_all (is_within (int_max number (tables.last table.0))) (at_number (counting (table_at schema table.0).columns (id_columns (table_at schema table.0))) one)) (tables.rows table.0)
          (λ one is_in. all_within (tables.last table.0) (int_max number (tables.last table.0)) higher (at_number (counting (table_at schema table.0).columns (id_columns (table_at schema table.0))) one)
          (passes (λ (one : Row). list_all (is_within (tables.last table.0)) (at_number (counting (table_at schema table.0).columns (id_columns (table_at schema table.0))) one)) (tables.rows table.0) one within is_in)),
      at_most (pos 0) (tables.last table.0) (int_max number (tables.last table.0)) positive higher,
      λ no_column. let none_is : Some number ≡ None = sym own ∙ ap (λ column. number_at column row) no_column in absurd cc,
    )

    counters : (t : ℕ) (b : Bool) → (t == table.0) ≡ b → Counts (table_at schema t) (cond b (int_max number (tables.last table.0)) (tables.last t)) (tables.rows t)
    counters t true same = subst (λ n. Counts (table_at schema n) (int_max number (tables.last table.0)) (tables.rows n)) (sym (eqb-true t table.0 same)) (here (fits.counters table.0))
    counters t false same = fits.counters t

pub counter_leads : (told : Option Tables) (asked schema : Schema) (table : TableId) (model : Table) (row : Row) (number same : ℤ) → asked ≡ schema → IfSome told (FitsSchema asked) → model ≡ table_at schema table.0 → own_number model row ≡ Some number → same ≡ number
    → FitAfter asked (after asked (Counter table same)) told
counter_leads told asked schema table model row number same is fits model_is own same_is =
    counter_fits told asked table row same fits (subst (λ (m : Table). own_number m row ≡ Some same) (model_is ∙ ap (λ (s : Schema). table_at s table.0) (sym is)) (own ∙ ap Some (sym same_is)))

-- a row with a greater number
pub high_number : (before middle after_it : Viewed) (schema : Schema) (table : TableId) (model : Table) (row : Row) (number same : ℤ) → middle.schema ≡ schema → model ≡ table_at schema table.0 → own_number model row ≡ Some number → same ≡ number → Same before middle
    → after_it ≡ changed (after middle.schema (Counter table same)) middle → ChangesTo (raised_for schema table.0 row) before after_it
high_number before middle after_it schema table model row number same is model_is own same_is same_tables made =
    let own_here : own_number (table_at schema table.0) row ≡ Some number = subst (λ (m : Table). own_number m row ≡ Some number) model_is own in
    let raised_so : (tables : Tables) → after middle.schema (Counter table same) tables ≡ raised_for schema table.0 row tables =
    λ tables. ap (λ n. with_last table.0 n tables) (int_max_turned same (tables.last table.0) ∙ ap (int_max (tables.last table.0)) same_is ∙ sym (raised_with (table_at schema table.0) row (tables.last table.0) (Some number) own_here)) in
    from_same (raised_for schema table.0 row) before middle after_it same_tables (record {
      now = ap (λ (all : Viewed). all.now) made ∙ mapped_same (after middle.schema (Counter table same)) (raised_for schema table.0 row) middle.now raised_so;
      back = subst (CanGoBack middle) (sym made) (back_over (after middle.schema (Counter table same)) middle middle (back_to_itself middle));
    })

-- ---- the row is put

put_is : (schema : Schema) (table : ℕ) (row : Row) (tables : Tables) → broken_key (table_at schema table).keys 0 row (tables.rows table) ≡ None → put_of schema table row tables ≡ Ok (placed schema table row tables)
put_is schema table row tables unheld = ap (put_unless schema table row (tables.rows table) tables) unheld

put_fits : (told : Option Tables) (schema : Schema) (table : TableId) (row : Row) → IfSome told (FitsSchema schema) → is_row_of schema table.0 row ≡ true → IsUnheld schema table.0 row told
    → FitAfter schema (after schema (Put table row)) (option_map (raised_for schema table.0 row) told)
put_fits None schema table row fits right unheld = tt
put_fits (Some tables) schema table row fits right unheld =
    let parts = and_parts (is_model schema table.0) (fit_columns schema.choices (table_at schema table.0).columns row.values) right in
    new_rows_fit schema table.0 row tables (placed schema table.0 row tables) fits parts.0 parts.1 (put_is schema table.0 row tables unheld)

pub put_leads : (told middle : Option Tables) (first asked schema : Schema) (table : TableId) (row : Row) → first ≡ schema → asked ≡ schema → IfSome told (FitsSchema first) → is_row_of schema table.0 row ≡ true → IsUnheld schema table.0 row told
    → middle ≡ option_map (raised_for schema table.0 row) told → FitAfter asked (after asked (Put table row)) middle
put_leads told middle first asked schema table row first_is asked_is fits right unheld middle_is =
    subst (λ (s : Schema). FitAfter s (after s (Put table row)) middle) (sym asked_is)
    (subst (FitAfter schema (after schema (Put table row))) (sym middle_is) (put_fits told schema table row (subst (λ (s : Schema). IfSome told (FitsSchema s)) first_is fits) right unheld))

pub put_reaches : (before middle after_it : Viewed) (asked schema : Schema) (table : TableId) (row : Row) → asked ≡ schema → ChangesTo (raised_for schema table.0 row) before middle → Same (changed (after asked (Put table row)) middle) after_it
    → ChangesTo (placed schema table.0 row) before after_it
put_reaches before middle after_it asked schema table row asked_is reached made =
    reaches_over (raised_for schema table.0 row) (after schema (Put table row)) (placed schema table.0 row) before middle after_it (λ tables. refl) reached (subst (λ (s : Schema). Same (changed (after s (Put table row)) middle) after_it) asked_is made)
