-- What is kept goes on to fit the layout, and what is found of it fits.
use Rattle.std.proofs.Common.{◌≡◌, ℕ, zero, suc, ◌==◌, ℤ, pos, List, [], ◌∷◌, ◌++◌, map, filter, take, reverse, length, cond, Option, Some, None, IfSome, Bool, true, false, not, ◌&&◌, int_lt, refl, sym, ap, ◌∙◌, subst, if◌then◌else◌}
use Rattle.std.specs.Int.{int_max}
use Rattle.std.specs.List.{list_all}
use Rattle.std.proofs.lemmas.List.Folds.{list_all-append, list_all-map}
use Rattle.std.specs.Prelude.{IsSomeAnd, get_or, Result, IfOk}
use Rattle.std.proofs.lemmas.Bool.{and_from, and_parts, eqb-true, ltb-true}
use Rattle.std.proofs.lemmas.Grind.{reverse_onto}
use Rattle.std.proofs.lemmas.List.{get_or_default, length-map}
use Rattle.std.proofs.lemmas.Option.{unwrap_or-slice_get}
use Rattle.qe_base.specs.declared.value.Row.{Row}
use Rattle.qe_base.specs.declared.value.Value.{Value}
use Rattle.qe_base.specs.declared.schema.Table.{Table}
use Rattle.qe_base.specs.declared.query.ColumnTest.{ColumnTest}
use Rattle.qe_base.specs.Schemas.{Schema}
use Rattle.qe_schema.specs.Columns.{is_null}
use Rattle.qe_schema.specs.Fits.{fit_columns, fits_column}
use Rattle.qe_schema.specs.Links.{HasTwoColumns, LinkTablesHaveTwoColumns}
use Rattle.qe_schema.specs.Pairs.{both_values}
use Rattle.qe_schema.specs.Tables.{Tables, no_rows, no_table, table_at, is_model, is_link, with_rows, with_pairs}
use Rattle.qe_view.specs.After.{after, after_all, pair_row, rows_in, rows_at, rows_passing, is_wanted, is_from, turned, page_among, page_in}
use Rattle.qe_view.specs.Attached.{Attached, shapes_of}
use Rattle.qe_view.specs.Layouts.{Layout, IsLayout}
use Rattle.qe_view.specs.Right.{is_right, are_right, are_values_of, has_table}
use Rattle.qe_view.specs.declared.changes.Change.{Change}
use Rattle.qe_view.specs.declared.changes.Change.TheVariants.{Remove, Put, Unlink, Link, Counter}
use Rattle.qe_plain.specs.Kept.{nothing_kept, tables_of, FitColumns}
use Rattle.qe_plain.specs.Plain.{AreHeld}
use Rattle.qe_plain.specs.declared.tables.PlainTable.{PlainTable}
use Rattle.qe_plain.proofs.Empty.{empty_tables}

-- ---- lists of which each member passes

all_filtered : {X : Type 0} (p q : X → Bool) (xs : List X) → list_all p xs ≡ true → list_all p (filter q xs) ≡ true
all_filtered p q [] all = refl
all_filtered p q (x ∷ xs) all =
    let parts = and_parts (p x) (list_all p xs) all in
    elim (q x) as (λ b. list_all p (cond b (x ∷ filter q xs) (filter q xs)) ≡ true) [
      | true ↦ and_from _ _ parts.0 (all_filtered p q xs parts.1)
      | false ↦ all_filtered p q xs parts.1
    ]

all_joined : {X : Type 0} (p : X → Bool) (xs ys : List X) → list_all p xs ≡ true → list_all p ys ≡ true → list_all p (xs ++ ys) ≡ true
all_joined p xs ys first second = list_all-append p xs ys ∙ and_from _ _ first second

-- the members that come before one, that one, and those behind it
all_around : {X : Type 0} (p before behind : X → Bool) (x : X) (xs : List X) → list_all p xs ≡ true → p x ≡ true → list_all p (filter before xs ++ x ∷ filter behind xs) ≡ true
all_around p before behind x xs all one = all_joined p (filter before xs) (x ∷ filter behind xs) (all_filtered p before xs all) (and_from _ _ one (all_filtered p behind xs all))

all_taken : {X : Type 0} (p : X → Bool) (count : ℕ) (xs : List X) → list_all p xs ≡ true → list_all p (take count xs) ≡ true
all_taken p zero xs all = refl
all_taken p (suc count) [] all = refl
all_taken p (suc count) (x ∷ xs) all = let parts = and_parts (p x) (list_all p xs) all in and_from _ _ parts.0 (all_taken p count xs parts.1)

all_reversed : {X : Type 0} (p : X → Bool) (xs : List X) → list_all p xs ≡ true → list_all p (reverse xs) ≡ true
all_reversed p [] all = refl
all_reversed p (x ∷ xs) all =
    let parts = and_parts (p x) (list_all p xs) all in
    ap (list_all p) (reverse_onto xs x []) ∙ all_joined p (reverse xs) (x ∷ []) (all_reversed p xs parts.1) (and_from _ _ parts.0 refl)

all_turned : (p : Row → Bool) (backward : Bool) (rows : List Row) → list_all p rows ≡ true → list_all p (turned backward rows) ≡ true
all_turned p false rows all = all
all_turned p true rows all = all_reversed p rows all

-- ---- what is found fits

abbrev fits_row : Schema → ℕ → Row → Bool
fits_row schema table row = fit_columns schema.choices (table_at schema table).columns row.values

abbrev fits_pair : Schema → ℕ → Value × Value → Bool
fits_pair schema table pair = fit_columns schema.choices (table_at schema table).columns (both_values pair)

module _ (schema : Schema) (tables : Tables) (table : ℕ) (fits : FitColumns schema tables) where
  rows_fit : list_all (fits_row schema table) (rows_in tables table) ≡ true
  rows_fit = all_joined (fits_row schema table) (tables.rows table) (map pair_row (tables.pairs table)) (fits.kinds table)
      (list_all-map (fits_row schema table) pair_row (tables.pairs table) ∙ fits.pair_kinds table)

  pub wanted_fit : (columns : List ℕ) (keys : List Row) → list_all (fits_row schema table) (rows_at columns keys table tables) ≡ true
  wanted_fit columns keys = all_filtered (fits_row schema table) (is_wanted columns keys) (rows_in tables table) rows_fit

  pub passing_fit : (tests : List ColumnTest) → list_all (fits_row schema table) (rows_passing tests table tables) ≡ true
  passing_fit tests = all_filtered (fits_row schema table) _ (rows_in tables table) rows_fit

  pub page_fits : (from : Option Row) (backward : Bool) (count : ℕ) → list_all (fits_row schema table) (page_in schema from backward count table tables) ≡ true
  page_fits from backward count =
      let found = filter (is_from (table_at schema table) from backward) (tables.rows table) in
      all_taken (fits_row schema table) count (turned backward found)
      (all_turned (fits_row schema table) backward found (all_filtered (fits_row schema table) (is_from (table_at schema table) from backward) (tables.rows table) (fits.kinds table)))

-- ---- changes keep what is kept fitting

module _ (schema : Schema) (table : ℕ) (tables : Tables) (fits : FitColumns schema tables) where
  rows_changed : (new : List Row) → list_all (fits_row schema table) new ≡ true → FitColumns schema (with_rows table new tables)
  rows_changed new here = record { kinds = λ t. by_test t (t == table) refl; pair_kinds = fits.pair_kinds }
    where
      by_test : (t : ℕ) (b : Bool) → (t == table) ≡ b → list_all (fits_row schema t) (if b then new else tables.rows t) ≡ true
      by_test t true is = subst (λ n. list_all (fits_row schema n) new ≡ true) (sym (eqb-true t table is)) here
      by_test t false is = fits.kinds t

  pairs_changed : (new : List (Value × Value)) → list_all (fits_pair schema table) new ≡ true → FitColumns schema (with_pairs table new tables)
  pairs_changed new here = record { kinds = fits.kinds; pair_kinds = λ t. by_test t (t == table) refl }
    where
      by_test : (t : ℕ) (b : Bool) → (t == table) ≡ b → list_all (fits_pair schema t) (if b then new else tables.pairs t) ≡ true
      by_test t true is = subst (λ n. list_all (fits_pair schema n) new ≡ true) (sym (eqb-true t table is)) here
      by_test t false is = fits.pair_kinds t

-- a pair of a link table fits its two columns
pair_fits : (schema : Schema) (table : ℕ) (pair : Value × Value) → HasTwoColumns (table_at schema table) → are_values_of schema.choices (table_at schema table).columns (0 ∷ 1 ∷ []) (both_values pair) ≡ true → fits_pair schema table pair ≡ true
pair_fits schema table pair two right =
    subst (λ columns. fit_columns schema.choices columns (both_values pair) ≡ true) (sym two.columns)
    (fit (subst (λ columns. are_values_of schema.choices columns (0 ∷ 1 ∷ []) (both_values pair) ≡ true) two.columns right))
  where
    fit : are_values_of schema.choices (two.first ∷ two.second ∷ []) (0 ∷ 1 ∷ []) (both_values pair) ≡ true → fit_columns schema.choices (two.first ∷ two.second ∷ []) (both_values pair) ≡ true
    fit values =
        let first = and_parts (not (is_null pair.0) && fits_column schema.choices two.first pair.0) _ values in
        let second = and_parts (not (is_null pair.1) && fits_column schema.choices two.second pair.1) true first.1 in
        and_from _ _ (and_parts (not (is_null pair.0)) _ first.0).1 (and_from _ _ (and_parts (not (is_null pair.1)) _ second.0).1 refl)

module _ (schema : Schema) (two : LinkTablesHaveTwoColumns schema) where
  fit_after : (change : Change) (tables : Tables) → is_right schema change ≡ true → FitColumns schema tables → FitColumns schema (after schema change tables)
  fit_after (Remove table id) tables right fits =
      rows_changed schema table.0 tables fits _ (all_filtered (fits_row schema table.0) _ (tables.rows table.0) (fits.kinds table.0))
  fit_after (Put table row) tables right fits =
      rows_changed schema table.0 tables fits _
      (all_around (fits_row schema table.0) _ _ row (tables.rows table.0) (fits.kinds table.0) (and_parts (is_model schema table.0) _ right).1)
  fit_after (Unlink table a b) tables right fits =
      pairs_changed schema table.0 tables fits _ (all_filtered (fits_pair schema table.0) _ (tables.pairs table.0) (fits.pair_kinds table.0))
  fit_after (Link table a b) tables right fits =
      let parts = and_parts (is_link schema table.0) _ right in
      pairs_changed schema table.0 tables fits _
      (all_around (fits_pair schema table.0) _ _ (a, b) (tables.pairs table.0) (fits.pair_kinds table.0) (pair_fits schema table.0 (a, b) (two table.0 parts.0) parts.1))
  fit_after (Counter table last) tables right fits = record { kinds = fits.kinds; pair_kinds = fits.pair_kinds }

  pub fit_after_all : (changes : List Change) (tables : Tables) → list_all (is_right schema) changes ≡ true → FitColumns schema tables → FitColumns schema (after_all schema changes tables)
  fit_after_all [] tables right fits = fits
  fit_after_all (change ∷ changes) tables right fits =
      let parts = and_parts (is_right schema change) (list_all (is_right schema) changes) right in
      fit_after_all changes (after schema change tables) parts.1 (fit_after change tables parts.0 fits)

-- the link tables of a layout have two columns
pub two_columns : (layout : Layout) → IsLayout layout → LinkTablesHaveTwoColumns (shapes_of layout)
two_columns layout (schema, sound, is) = subst (λ (l : Layout). LinkTablesHaveTwoColumns (shapes_of l)) (sym is) (λ number link. sound.two_columns number link)

-- ---- counters are never below 0

abbrev CountUp : Tables → Type 0
CountUp tables = (table : ℕ) → int_lt (tables.last table) (pos 0) ≡ false

not_true : (b : Bool) → not b ≡ true → b ≡ false
not_true true is = cc
not_true false is = refl

greater : (x y : ℤ) → int_lt x (pos 0) ≡ false → int_lt y (pos 0) ≡ false → int_lt (int_max x y) (pos 0) ≡ false
greater x y first second = elim (int_lt y x) as (λ b. int_lt (cond b x y) (pos 0) ≡ false) [
  | true ↦ first
  | false ↦ second
]

raised : (table : ℕ) (last : ℤ) (tables : Tables) → int_lt last (pos 0) ≡ false → CountUp tables → (t : ℕ) (b : Bool) → int_lt (if b then int_max last (tables.last table) else tables.last t) (pos 0) ≡ false
raised table last tables least up t true = greater last (tables.last table) least (up table)
raised table last tables least up t false = up t

count_after : (schema : Schema) (change : Change) (tables : Tables) → is_right schema change ≡ true → CountUp tables → CountUp (after schema change tables)
count_after schema (Remove table id) tables right up = up
count_after schema (Put table row) tables right up = up
count_after schema (Unlink table a b) tables right up = up
count_after schema (Link table a b) tables right up = up
count_after schema (Counter table last) tables right up = λ t. raised table.0 last tables (not_true (int_lt last (pos 0)) (and_parts (is_model schema table.0) _ right).1) up t (t == table.0)

pub count_after_all : (schema : Schema) (changes : List Change) (tables : Tables) → list_all (is_right schema) changes ≡ true → CountUp tables → CountUp (after_all schema changes tables)
count_after_all schema [] tables right up = up
count_after_all schema (change ∷ changes) tables right up =
    let parts = and_parts (is_right schema change) (list_all (is_right schema) changes) right in
    count_after_all schema changes (after schema change tables) parts.1 (count_after schema change tables parts.0 up)

-- ---- what is held

abbrev HeldFit : Option Attached → List PlainTable → Type 0
HeldFit attached kept = IfSome attached (λ opened. FitColumns (shapes_of opened.layout) (tables_of kept))

abbrev FoundFit : Option Attached → ℕ → List Row → Type 0
FoundFit attached table rows = IfSome attached (λ opened. list_all (fits_row (shapes_of opened.layout) table) rows ≡ true)

-- what is found of the tables of an attached layout fits it
pub wanted_held : (attached : Option Attached) (kept : List PlainTable) (columns : List ℕ) (keys : List Row) (table : ℕ) (rows : List Row) → HeldFit attached kept → rows ≡ rows_at columns keys table (tables_of kept) → FoundFit attached table rows
wanted_held None kept columns keys table rows fits is = tt
wanted_held (Some opened) kept columns keys table rows fits is =
    ap (list_all (fits_row (shapes_of opened.layout) table)) is ∙ wanted_fit (shapes_of opened.layout) (tables_of kept) table fits columns keys

pub passing_held : (attached : Option Attached) (kept : List PlainTable) (tests : List ColumnTest) (table : ℕ) (rows : List Row) → HeldFit attached kept → rows ≡ rows_passing tests table (tables_of kept) → FoundFit attached table rows
passing_held None kept tests table rows fits is = tt
passing_held (Some opened) kept tests table rows fits is =
    ap (list_all (fits_row (shapes_of opened.layout) table)) is ∙ passing_fit (shapes_of opened.layout) (tables_of kept) table fits tests

pub page_held : (attached : Option Attached) (kept : List PlainTable) (from : Option Row) (backward : Bool) (count table : ℕ) (rows : List Row)
    → HeldFit attached kept → IfSome attached (λ opened. rows ≡ page_in (shapes_of opened.layout) from backward count table (tables_of kept)) → FoundFit attached table rows
page_held None kept from backward count table rows fits is = tt
page_held (Some opened) kept from backward count table rows fits is =
    ap (list_all (fits_row (shapes_of opened.layout) table)) is ∙ page_fits (shapes_of opened.layout) (tables_of kept) table fits from backward count

-- empty tables are held of a layout
pub held_empty : (place : List ℕ) (layout copy : Layout) (shapes : List Table) (kept : List PlainTable) → shapes ≡ layout.tables → copy ≡ layout → kept ≡ map (λ _. nothing_kept) shapes
    → AreHeld (Some (record { place = place; layout = copy })) kept
held_empty place layout copy shapes kept shapes_are copy_is is =
    let told : tables_of kept ≡ no_rows = ap tables_of is ∙ empty_tables shapes in
    record {
      count = ap length is ∙ length-map shapes _ ∙ ap length shapes_are ∙ sym (ap (λ (l : Layout). length l.tables) copy_is);
      fits = subst (FitColumns (shapes_of copy)) (sym told) (record { kinds = λ _. refl; pair_kinds = λ _. refl });
      counters = λ table. ap (λ (tables : Tables). int_lt (tables.last table) (pos 0)) told;
    }

-- what right changes make of held tables is held
pub held_after : (attached : Option Attached) (opened : Attached) (changes : List Change) (kept later : List PlainTable) → attached ≡ Some opened → IsLayout opened.layout → list_all (is_right (shapes_of opened.layout)) changes ≡ true
    → AreHeld attached kept → length later ≡ length kept → tables_of later ≡ after_all (shapes_of opened.layout) changes (tables_of kept) → AreHeld attached later
held_after attached opened changes kept later is laid right held count told =
    let here = subst (λ a. AreHeld a kept) is held in
    let schema = shapes_of opened.layout in
    subst (λ a. AreHeld a later) (sym is) (record {
      count = count ∙ here.count;
      fits = subst (FitColumns schema) (sym told) (fit_after_all schema (two_columns opened.layout laid) changes (tables_of kept) right here.fits);
      counters = λ table. ap (λ (tables : Tables). int_lt (tables.last table) (pos 0)) told ∙ count_after_all schema changes (tables_of kept) right here.counters table;
    })

-- the changes that may be applied are right for the attached layout
pub right_for : (attached : Option Attached) (opened : Attached) (changes : List Change) → attached ≡ Some opened → IsSomeAnd attached (λ a. (are_right (shapes_of a.layout) changes ≡ true) × Unit {0})
    → list_all (is_right (shapes_of opened.layout)) changes ≡ true
right_for attached opened changes is can =
    (and_parts (list_all (is_right (shapes_of opened.layout)) changes) _ (subst (λ a. IsSomeAnd a (λ a. (are_right (shapes_of a.layout) changes ≡ true) × Unit {0})) is can).0).0

-- the shape that is looked up is that of the attached layout
pub shape_found : (attached : Option Attached) (opened : Attached) (shapes : List Table) (table : ℕ) (shape : Table) → attached ≡ Some opened → IsSomeAnd attached (λ a. has_table (shapes_of a.layout) table ≡ true)
    → shapes ≡ opened.layout.tables → shape ≡ get_or shapes table shape → shape ≡ table_at (shapes_of opened.layout) table
shape_found attached opened shapes table shape is there shapes_are found =
    let has : has_table (shapes_of opened.layout) table ≡ true = subst (λ a. IsSomeAnd a (λ a. has_table (shapes_of a.layout) table ≡ true)) is there in
    found
    ∙ ap (λ l. get_or l table shape) shapes_are
    ∙ get_or_default opened.layout.tables table shape no_table (ltb-true table (length opened.layout.tables) has)
    ∙ sym (unwrap_or-slice_get opened.layout.tables table no_table)

-- a page by the shape of a table is one of the attached layout
pub page_told : {E : Type 0} (attached : Option Attached) (opened : Attached) (kept : List PlainTable) (table : ℕ) (shape : Table) (from : Option Row) (backward : Bool) (count : ℕ) (result : Result (List Row) E)
    → attached ≡ Some opened → shape ≡ table_at (shapes_of opened.layout) table → IfOk result (λ rows. rows ≡ page_among shape from backward count ((tables_of kept).rows table))
    → IfOk result (λ rows. IfSome attached (λ a. rows ≡ page_in (shapes_of a.layout) from backward count table (tables_of kept)))
page_told attached opened kept table shape from backward count result is same given =
    subst (λ a. IfOk result (λ rows. IfSome a (λ a. rows ≡ page_in (shapes_of a.layout) from backward count table (tables_of kept)))) (sym is)
    (subst (λ (s : Table). IfOk result (λ rows. rows ≡ page_among s from backward count ((tables_of kept).rows table))) same given)
