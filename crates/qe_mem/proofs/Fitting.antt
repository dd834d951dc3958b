-- What is told of the kept tables fits, what is read of them, and what is held of new ones.
use Rattle.std.proofs.Common.{◌≡◌, ℕ, zero, suc, ◌+◌, pos, List, [], ◌∷◌, ◌++◌, map, filter, take, reverse, cond, Option, Some, None, IfSome, Bool, true, false, refl, sym, ap, ◌∙◌, subst}
use mathlib.Core.List.{reverse_aux}
use Rattle.std.specs.Prelude.{IsSomeAnd}
use Rattle.std.specs.List.{AllByRecursion, list_all, enumerate_from}
use Rattle.std.specs.List.Sorted.{IsStrictlySortedBy}
use Rattle.std.proofs.lemmas.List.Folds.{list_all-append}
use Rattle.std.proofs.lemmas.Bool.{and_from, and_parts}
use Rattle.qe_base.specs.Schemas.{Schema}
use Rattle.qe_base.specs.declared.schema.Table.{Table}
use Rattle.qe_base.specs.declared.query.ColumnTest.{ColumnTest}
use Rattle.qe_base.specs.declared.value.Row.{Row}
use Rattle.qe_base.specs.declared.value.Value.{Value}
use Rattle.qe_schema.specs.Fits.{FitsSchema, fit_columns}
use Rattle.qe_schema.specs.Pairs.{both_values}
use Rattle.qe_schema.specs.Tables.{Tables, table_at, no_rows, is_model}
use Rattle.qe_schema.specs.Tests.{passes}
use Rattle.qe_view.specs.After.{pair_row, rows_in, rows_at, rows_passing, is_wanted, is_from, turned, page_in, after_all}
use Rattle.qe_view.specs.Attached.{Attached, shapes_of}
use Rattle.qe_view.specs.Layouts.{Layout}
use Rattle.qe_view.specs.Right.{can_page, are_right, ChangesLead}
use Rattle.qe_view.specs.declared.changes.Change.{Change}
use Rattle.qe_mem.specs.Listings.{Listing, no_listing}
use Rattle.qe_mem.specs.Kept.{ids_of, looked_up, is_kept_by, with_order, with_orders, empty_table, empty_tables, kept_at, columns_of, columns_for, orders_of, IsKeptFor, model_rows, link_pairs, tables_of, ArePairsIf, ArePairs, IsOrderOf, IsExact, AreExact, MakesRight, IsPageOf}
use Rattle.qe_mem.specs.Mem.{AreHeld}
use Rattle.qe_mem.specs.declared.keyed.Columns.TheVariants.{Listed}
use Rattle.qe_mem.specs.declared.table.MemTable.{MemTable}
use Rattle.qe_mem.proofs.Making.{same_tables}

-- ---- what is read fits

abbrev pub fits_row : Schema → ℕ → Row → Bool
fits_row schema table row = fit_columns schema.choices (table_at schema table).columns row.values

pairs_fit : (schema : Schema) (table : ℕ) (pairs : List (Value × Value)) → list_all (λ pair. fit_columns schema.choices (table_at schema table).columns (both_values pair)) pairs ≡ true → list_all (fits_row schema table) (map pair_row pairs) ≡ true
pairs_fit schema table [] fit = refl
pairs_fit schema table (pair ∷ pairs) fit =
    let parts = and_parts (fit_columns schema.choices (table_at schema table).columns (both_values pair)) _ fit in
    and_from _ _ parts.0 (pairs_fit schema table pairs parts.1)

rows_fit : (schema : Schema) (tables : Tables) (table : ℕ) → FitsSchema schema tables → list_all (fits_row schema table) (rows_in tables table) ≡ true
rows_fit schema tables table fits = list_all-append (fits_row schema table) (tables.rows table) (map pair_row (tables.pairs table)) ∙ and_from _ _ (fits.kinds table) (pairs_fit schema table (tables.pairs table) (fits.pair_kinds table))

all_filtered : (p q : Row → Bool) (rows : List Row) → list_all p rows ≡ true → list_all p (filter q rows) ≡ true
all_filtered p q [] all = refl
all_filtered p q (row ∷ rows) all =
    let parts = and_parts (p row) (list_all p rows) all in
    elim (q row) as (λ b. list_all p (cond b (row ∷ filter q rows) (filter q rows)) ≡ true) [
      | true ↦ and_from _ _ parts.0 (all_filtered p q rows parts.1)
      | false ↦ all_filtered p q rows parts.1
    ]

all_taken : (p : Row → Bool) (count : ℕ) (rows : List Row) → list_all p rows ≡ true → list_all p (take count rows) ≡ true
all_taken p zero [] all = refl
all_taken p zero (row ∷ rows) all = refl
all_taken p (suc count) [] all = refl
all_taken p (suc count) (row ∷ rows) all = let parts = and_parts (p row) (list_all p rows) all in and_from _ _ parts.0 (all_taken p count rows parts.1)

all_moved : (p : Row → Bool) (rows moved : List Row) → list_all p rows ≡ true → list_all p moved ≡ true → list_all p (reverse_aux rows moved) ≡ true
all_moved p [] moved all others = others
all_moved p (row ∷ rows) moved all others = let parts = and_parts (p row) (list_all p rows) all in all_moved p rows (row ∷ moved) parts.1 (and_from _ _ parts.0 others)

all_reversed : (p : Row → Bool) (rows : List Row) → list_all p rows ≡ true → list_all p (reverse rows) ≡ true
all_reversed p rows all = all_moved p rows [] all refl

all_turned : (p : Row → Bool) (backward : Bool) (rows : List Row) → list_all p rows ≡ true → list_all p (turned backward rows) ≡ true
all_turned p false rows all = all
all_turned p true rows all = all_reversed p rows all

-- the kept tables fit the attached layout
abbrev pub HeldFit : Option Attached → List MemTable → Type 0
HeldFit attached kept = IfSome attached (λ opened. FitsSchema (shapes_of opened.layout) (tables_of kept))

pub found_fit : (attached : Option Attached) (kept : List MemTable) (columns : List ℕ) (keys : List Row) (table : ℕ) (rows : List Row) → HeldFit attached kept → rows ≡ rows_at columns keys table (tables_of kept)
    → IfSome attached (λ opened. list_all (fits_row (shapes_of opened.layout) table) rows ≡ true)
found_fit None kept columns keys table rows fits is = tt
found_fit (Some opened) kept columns keys table rows fits is =
    subst (λ (l : List Row). list_all (fits_row (shapes_of opened.layout) table) l ≡ true) (sym is) (all_filtered (fits_row (shapes_of opened.layout) table) (is_wanted columns keys) (rows_in (tables_of kept) table) (rows_fit (shapes_of opened.layout) (tables_of kept) table fits))

pub passing_fit : (attached : Option Attached) (kept : List MemTable) (tests : List ColumnTest) (table : ℕ) (rows : List Row) → HeldFit attached kept → rows ≡ rows_passing tests table (tables_of kept)
    → IfSome attached (λ opened. list_all (fits_row (shapes_of opened.layout) table) rows ≡ true)
passing_fit None kept tests table rows fits is = tt
passing_fit (Some opened) kept tests table rows fits is =
    subst (λ (l : List Row). list_all (fits_row (shapes_of opened.layout) table) l ≡ true) (sym is) (all_filtered (fits_row (shapes_of opened.layout) table) (passes tests) (rows_in (tables_of kept) table) (rows_fit (shapes_of opened.layout) (tables_of kept) table fits))

pub page_fits : (schema : Schema) (tables : Tables) (from : Option Row) (backward : Bool) (count table : ℕ) → FitsSchema schema tables → list_all (fits_row schema table) (page_in schema from backward count table tables) ≡ true
page_fits schema tables from backward count table fits =
    all_taken (fits_row schema table) count (turned backward (filter (is_from (table_at schema table) from backward) (tables.rows table)))
    (all_turned (fits_row schema table) backward (filter (is_from (table_at schema table) from backward) (tables.rows table)) (all_filtered (fits_row schema table) (is_from (table_at schema table) from backward) (tables.rows table) (fits.kinds table)))

-- ---- what is new is empty, and fits

abbrev empties_from : Layout → List Table → ℕ → List MemTable
empties_from layout tables number = map (λ numbered. empty_table layout numbered.0 numbered.1) (enumerate_from number tables)

empty_rows : (layout : Layout) (tables : List Table) (number : ℕ) (table : ℕ) → (kept_at (empties_from layout tables number) table).rows.rows ≡ []
empty_rows layout [] number table = refl
empty_rows layout (one ∷ tables) number zero = refl
empty_rows layout (one ∷ tables) number (suc table) = empty_rows layout tables (number + 1) table

empty_last : (layout : Layout) (tables : List Table) (number : ℕ) (table : ℕ) → (kept_at (empties_from layout tables number) table).last ≡ pos 0
empty_last layout [] number table = refl
empty_last layout (one ∷ tables) number zero = refl
empty_last layout (one ∷ tables) number (suc table) = empty_last layout tables (number + 1) table

no_model_rows : (link : Bool) → model_rows link [] ≡ []
no_model_rows true = refl
no_model_rows false = refl

no_link_pairs : (link : Bool) → link_pairs link [] ≡ []
no_link_pairs true = refl
no_link_pairs false = refl

pub empty_told : (layout : Layout) → tables_of (empty_tables layout) ≡ no_rows
empty_told layout = same_tables _ _ _ _ _ _
    (λ i table. (ap (model_rows (kept_at (empty_tables layout) table).link) (empty_rows layout layout.tables 0 table) ∙ no_model_rows (kept_at (empty_tables layout) table).link) i)
    (λ i table. empty_last layout layout.tables 0 table i)
    (λ i table. (ap (link_pairs (kept_at (empty_tables layout) table).link) (empty_rows layout layout.tables 0 table) ∙ no_link_pairs (kept_at (empty_tables layout) table).link) i)

no_pairs : (link : Bool) → ArePairsIf link []
no_pairs true = tt
no_pairs false = tt

empty_pairs : (layout : Layout) (tables : List Table) (number : ℕ) → ArePairs (empties_from layout tables number)
empty_pairs layout [] number = tt
empty_pairs layout (table ∷ tables) number = (no_pairs table.link, empty_pairs layout tables (number + 1))

empty_columns : (layout : Layout) (tables : List Table) (number : ℕ) → IsKeptFor tables (empties_from layout tables number)
empty_columns layout [] number = refl
empty_columns layout (table ∷ tables) number = ap (λ l. columns_for table ∷ l) (empty_columns layout tables (number + 1))

all_append : {X : Type 0} (P : X → Type 0) (xs : List X) (x : X) → AllByRecursion P xs → P x → AllByRecursion P (xs ++ x ∷ [])
all_append P [] x all one = (one, tt)
all_append P (y ∷ xs) x all one = (all.0, all_append P xs x all.1 one)

empty_order : (ids key : List ℕ) → IsOrderOf (no_listing (Listed ids [])) (no_listing (Listed key ids))
unfolding IsStrictlySortedBy
empty_order ids key = record { columns = (refl, refl); in_order = tt; same = λ row. refl }

order_added : (ids key : List ℕ) (orders : List Listing) → AllByRecursion (IsOrderOf (no_listing (Listed ids []))) orders → AllByRecursion (IsOrderOf (no_listing (Listed ids []))) (with_order ids key orders)
order_added ids key orders all = elim (is_kept_by ids key orders) as (λ b. AllByRecursion (IsOrderOf (no_listing (Listed ids []))) (cond b orders (orders ++ no_listing (Listed key ids) ∷ []))) [
  | true ↦ all
  | false ↦ all_append (IsOrderOf (no_listing (Listed ids []))) orders (no_listing (Listed key ids)) all (empty_order ids key)
]

orders_added : (ids : List ℕ) (keys : List (List ℕ)) (orders : List Listing) → AllByRecursion (IsOrderOf (no_listing (Listed ids []))) orders → AllByRecursion (IsOrderOf (no_listing (Listed ids []))) (with_orders ids keys orders)
orders_added ids [] orders all = all
orders_added ids (key ∷ keys) orders all = orders_added ids keys (with_order ids key orders) (order_added ids key orders all)

empty_exact : (layout : Layout) (number : ℕ) (table : Table) → IsExact (empty_table layout number table)
unfolding IsStrictlySortedBy
empty_exact layout number table = record { in_order = tt; orders = orders_added (ids_of table) (looked_up layout number table) [] tt }

empties_exact : (layout : Layout) (tables : List Table) (number : ℕ) → AreExact (empties_from layout tables number)
empties_exact layout [] number = tt
empties_exact layout (table ∷ tables) number = (empty_exact layout number table, empties_exact layout tables (number + 1))

no_rows_fit : (schema : Schema) → FitsSchema schema no_rows
no_rows_fit schema = record {
  models = λ _ _. refl;
  kinds = λ _. refl;
  order = λ _. tt;
  keys = λ _ _ _ _. tt;
  counters = λ _. (refl, refl, λ _. refl);
  links = λ _ _. refl;
  pair_kinds = λ _. refl;
  pair_order = λ _. tt;
}

empty_held : (place : List ℕ) (layout : Layout) → AreHeld (Some (record { place = place; layout = layout })) (empty_tables layout)
empty_held place layout = record {
  columns = empty_columns layout layout.tables 0;
  orders = refl;
  fits = subst (FitsSchema (shapes_of layout)) (sym (empty_told layout)) (no_rows_fit (shapes_of layout));
  pairs = empty_pairs layout layout.tables 0;
  exact = empties_exact layout layout.tables 0;
}

-- empty tables are held of a layout
pub held_empty : (place : List ℕ) (layout copy : Layout) (kept : List MemTable) → copy ≡ layout → kept ≡ empty_tables layout → AreHeld (Some (record { place = place; layout = copy })) kept
held_empty place layout copy kept copy_is is =
    subst (AreHeld (Some (record { place = place; layout = copy }))) (sym is) (subst (λ (l : Layout). AreHeld (Some (record { place = place; layout = l })) (empty_tables layout)) (sym copy_is) (empty_held place layout))

-- ---- pages of an attached layout

-- what holds of the shapes of an attached layout
abbrev pub Attaches : Option Attached → (Schema → Type 0) → Type 0
Attaches attached P = IsSomeAnd attached (λ opened. P (shapes_of opened.layout))

abbrev pub IfAttached : Option Attached → (Schema → Type 0) → Type 0
IfAttached attached P = IfSome attached (λ opened. P (shapes_of opened.layout))

pub page_given : (attached : Option Attached) (kept : List MemTable) (table : ℕ) (from : Option Row) (backward : Bool) (count : ℕ) (rows : List Row) → IfSome attached (λ opened. IsKeptFor opened.layout.tables kept) → Attaches attached (λ shapes. can_page shapes table from ≡ true)
    → IsPageOf kept table from backward count rows → IfAttached attached (λ shapes. rows ≡ page_in shapes from backward count table (tables_of kept))
page_given None kept table from backward count rows columns can is = tt
page_given (Some opened) kept table from backward count rows columns can is = is (shapes_of opened.layout) columns (and_parts (is_model (shapes_of opened.layout) table) _ can).0

pub page_given_fits : (attached : Option Attached) (kept : List MemTable) (table : ℕ) (from : Option Row) (backward : Bool) (count : ℕ) (rows : List Row) → HeldFit attached kept → IfAttached attached (λ shapes. rows ≡ page_in shapes from backward count table (tables_of kept))
    → IfAttached attached (λ shapes. list_all (fits_row shapes table) rows ≡ true)
page_given_fits None kept table from backward count rows fits is = tt
page_given_fits (Some opened) kept table from backward count rows fits is = subst (λ (l : List Row). list_all (fits_row (shapes_of opened.layout) table) l ≡ true) (sym is) (page_fits (shapes_of opened.layout) (tables_of kept) from backward count table fits)

-- ---- after changes of an attached layout

abbrev pub Leads : List Change → List MemTable → Schema → Type 0
Leads changes kept shapes = (are_right shapes changes ≡ true) × ChangesLead shapes changes (tables_of kept)

pub held_after : (attached : Option Attached) (kept now : List MemTable) (changes : List Change) → AreHeld attached kept → Attaches attached (Leads changes kept) → MakesRight changes kept now → AreExact now → map columns_of now ≡ map columns_of kept → map orders_of now ≡ map orders_of kept
    → AreHeld attached now
held_after None kept now changes held lead makes exact columns orders = absurd lead
held_after (Some opened) kept now changes held lead makes exact columns orders =
    let made = makes (shapes_of opened.layout) held.columns held.pairs lead.0 in
    record {
      columns = columns ∙ held.columns;
      orders = orders ∙ held.orders;
      fits = subst (FitsSchema (shapes_of opened.layout)) (sym made.told) lead.1.fits;
      pairs = made.pairs;
      exact = exact;
    }

pub told_after : (attached : Option Attached) (kept now : List MemTable) (changes : List Change) → AreHeld attached kept → Attaches attached (Leads changes kept) → MakesRight changes kept now → IfAttached attached (λ shapes. Some (tables_of now) ≡ Some (after_all shapes changes (tables_of kept)))
told_after None kept now changes held lead makes = tt
told_after (Some opened) kept now changes held lead makes = ap Some (makes (shapes_of opened.layout) held.columns held.pairs lead.0).told
