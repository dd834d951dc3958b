-- A page is a part of its list: no longer than asked, without repeats where it has to be, and of rows
-- that match.
use Rattle.std.proofs.Common.{◌≡◌, ℕ, ℤ, List, [], ◌∷◌, reverse, Bool, true, false, not, filter, drop, nat_abs, cond, length, min, ◌≤◌, Option, Some, None, refl, sym, ap, ◌∙◌, subst, arith}
use Rattle.std.proofs.lemmas.List.{reverse-reverse, length-take, length-reverse}
use Rattle.std.proofs.lemmas.Bool.{not-true}
use Rattle.std.specs.List.{AllByRecursion}
use Rattle.qe_base.specs.declared.value.Row.{Row}
use Rattle.qe_base.specs.declared.schema.Table.{Table}
use Rattle.qe_base.specs.declared.query.Look.{Look}
use Rattle.qe_base.specs.declared.query.Page.{Page}
use Rattle.qe_base.specs.declared.query.Unique.{Unique}
use Rattle.qe_base.specs.Schemas.{Schema}
use Rattle.qe_schema.specs.Columns.{at_columns, are_same}
use Rattle.qe_schema.specs.Tables.{Tables, table_at, field_at}
use Rattle.qe_reading.specs.Part.{IsPart, Empty, With, Without}
use Rattle.qe_reading.specs.Related.{related, other_table, is_related_by}
use Rattle.qe_reading.specs.Truth.{truth_of, matching}
use Rattle.qe_schema.specs.Tests.{is_yes}
use Rattle.qe_reading.specs.Order.{rows_cmp, ordered}
use Rattle.qe_reading.specs.Page.{AreDistinct, one_of_each, distinct_by, turned, is_backward, is_at, kept_from, from_first, from_cursor, front_of, part_of, page_of}
use Rattle.qe_reading.specs.Look.{looked_up}
use Rattle.qe_reading.proofs.Parts.{part_all, part_part, part_filter, part_take, part_drop, part_reverse}
use Rattle.qe_reading.proofs.Sorting.{all_sorted, all_then}

pub related_part : (schema : Schema) (tables : Tables) (table number : ℕ) (row : Row) → IsPart (related schema tables table number row) (tables.rows (other_table schema table number))
related_part schema tables table number row = part_filter (is_related_by schema tables (field_at schema table number) row) (tables.rows (other_table schema table number))

each_part : (columns : List ℕ) (rows : List Row) → IsPart (one_of_each columns rows) rows
each_part columns [] = Empty
each_part columns (row ∷ rows) = With (part_part (part_filter (λ later. not (are_same (at_columns columns row) (at_columns columns later))) (one_of_each columns rows)) (each_part columns rows))

distinct_part : (columns : List ℕ) (rows : List Row) → IsPart (distinct_by columns rows) rows
distinct_part [] rows = part_all rows
distinct_part (column ∷ columns) rows = each_part (column ∷ columns) rows

first_part : (test : Row → Bool) (rows : List Row) → IsPart (from_first test rows) rows
first_part test [] = Empty
first_part test (row ∷ rows) = by (test row) (first_part test rows)
  where
    by : (here : Bool) → IsPart (from_first test rows) rows → IsPart (kept_from here (row ∷ rows) (from_first test rows)) (row ∷ rows)
    by true later = part_all (row ∷ rows)
    by false later = Without later

cursor_part : (table : Table) (cursor : Option Unique) (rows : List Row) → IsPart (from_cursor table cursor rows) rows
cursor_part table None rows = part_all rows
cursor_part table (Some cursor) rows = first_part (is_at table cursor) rows

most_part : (count : Option ℤ) (rows : List Row) → IsPart (front_of count rows) rows
most_part None rows = part_all rows
most_part (Some count) rows = part_take (nat_abs count) rows

cut_part : (table : Table) (page : Page) (rows : List Row) → IsPart (part_of table page rows) rows
cut_part table page rows = part_part (most_part page.take (drop page.skip (from_cursor table page.cursor rows))) (part_part (part_drop page.skip (from_cursor table page.cursor rows)) (cursor_part table page.cursor rows))

turned_part : (table : Table) (page : Page) (backward : Bool) (rows : List Row) → IsPart (turned backward (part_of table page (turned backward rows))) rows
turned_part table page false rows = cut_part table page rows
turned_part table page true rows = subst (IsPart (reverse (part_of table page (reverse rows)))) (reverse-reverse rows) (part_reverse (cut_part table page (reverse rows)))

pub page_part : (table : Table) (page : Page) (rows : List Row) → IsPart (page_of table page rows) rows
page_part table page rows = part_part (turned_part table page (is_backward page.take) (distinct_by page.distinct rows)) (distinct_part page.distinct rows)

all_of_part : (P : Row → Type 0) {xs ys : List Row} → IsPart xs ys → AllByRecursion P ys → AllByRecursion P xs
all_of_part P Empty all = tt
all_of_part P (With p) all = (all.0, all_of_part P p all.1)
all_of_part P (Without p) all = all_of_part P p all.1

all_match : (test : Row → Bool) (rows : List Row) → AllByRecursion (λ row. test row ≡ true) (filter test rows)
all_match test [] = tt
all_match test (row ∷ rows) = by (test row) refl (all_match test rows)
  where
    by : (here : Bool) → test row ≡ here → AllByRecursion (λ other. test other ≡ true) (filter test rows) → AllByRecursion (λ other. test other ≡ true) (cond here (row ∷ filter test rows) (filter test rows))
    by true e later = (e, later)
    by false e later = later

pub looked_up_matches : (schema : Schema) (tables : Tables) (table : ℕ) (look : Look) (rows : List Row)
    → AllByRecursion (λ row. is_yes (truth_of schema tables look.filter table row) ≡ true) (looked_up schema tables table look rows)
looked_up_matches schema tables table look rows =
    let found = matching schema tables table look.filter rows in
    let test : Row → Bool = λ row. is_yes (truth_of schema tables look.filter table row) in
    all_of_part (λ row. test row ≡ true) (page_part (table_at schema table) look.page (ordered schema tables table look.order found))
    (all_sorted (rows_cmp schema tables table look.order) (λ row. test row ≡ true) found (all_match test rows))

-- ---- how many rows, and which

turned_length : (backward : Bool) (rows : List Row) → length (turned backward rows) ≡ length rows
turned_length false rows = refl
turned_length true rows = length-reverse rows

pub page_length : (table : Table) (page : Page) (count : ℤ) (rows : List Row) → page.take ≡ Some count → length (page_of table page rows) ≤ nat_abs count
page_length table page count rows e =
    let backward = is_backward page.take in
    let left = drop page.skip (from_cursor table page.cursor (turned backward (distinct_by page.distinct rows))) in
    let long : length (page_of table page rows) ≡ min (nat_abs count) (length left) = turned_length backward (front_of page.take left) ∙ ap (λ take. length (front_of take left)) e ∙ length-take (nat_abs count) left in
    omega (arith, long)

distinct_part_of : (columns : List ℕ) {xs ys : List Row} → IsPart xs ys → AreDistinct columns ys → AreDistinct columns xs
distinct_part_of columns Empty distinct = distinct
distinct_part_of columns (With {x} p) distinct = (all_of_part (λ later. are_same (at_columns columns x) (at_columns columns later) ≡ false) p distinct.0, distinct_part_of columns p distinct.1)
distinct_part_of columns (Without p) distinct = distinct_part_of columns p distinct.1

AreDistinct-filter : (columns : List ℕ) (test : Row → Bool) (rows : List Row) → AreDistinct columns rows → AreDistinct columns (filter test rows)
AreDistinct-filter columns test rows distinct = distinct_part_of columns (part_filter test rows) distinct

each_distinct : (columns : List ℕ) (rows : List Row) → AreDistinct columns (one_of_each columns rows)
each_distinct columns [] = tt
each_distinct columns (row ∷ rows) =
    let differs : Row → Bool = λ later. not (are_same (at_columns columns row) (at_columns columns later)) in
    (all_then (λ later e. not-true (are_same (at_columns columns row) (at_columns columns later)) e) (filter differs (one_of_each columns rows)) (all_match differs (one_of_each columns rows)), AreDistinct-filter columns differs (one_of_each columns rows) (each_distinct columns rows))

pub page_distinct : (table : Table) (page : Page) (column : ℕ) (columns : List ℕ) (rows : List Row) → page.distinct ≡ column ∷ columns → AreDistinct (column ∷ columns) (page_of table page rows)
page_distinct table page column columns rows e =
    distinct_part_of (column ∷ columns) (turned_part table page (is_backward page.take) (distinct_by page.distinct rows))
    (subst (λ asked. AreDistinct (column ∷ columns) (distinct_by asked rows)) (sym e) (each_distinct (column ∷ columns) rows))
