-- The order of rows is a total one, and the ordered list is the only one that is in it.
use Rattle.std.proofs.Common.{◌≡◌, ℕ, filter, List, [], ◌∷◌, Bool, true, false, refl, sym, ap, ◌∙◌, subst}
use Rattle.std.specs.Cmp.{IsTotalOrder, then_total, on_total, back_total, nat_cmp_total}
use Rattle.std.specs.Cmp.Lexicographic.{lists_total}
use Rattle.std.specs.List.Sorted.{IsPermutation, IsSorted, IsStable, IsStrictlySortedBy}
use Rattle.std.specs.Ordering.{is_gt, is_eq, ordering_then}
use Rattle.std.specs.declared.cmp.Ordering.{Ordering}
use Rattle.std.specs.declared.cmp.Ordering.TheVariants.{Less, Equal, Greater}
use Rattle.qe_base.specs.Values.{value_cmp}
use Rattle.qe_base.specs.ValueOrder.{value_cmp_total}
use Rattle.qe_base.specs.declared.value.Row.{Row}
use Rattle.qe_base.specs.declared.query.OrderBy.{OrderBy}
use Rattle.qe_base.specs.Schemas.{Schema}
use Rattle.qe_schema.specs.Columns.{values_cmp}
use Rattle.qe_schema.specs.Tables.{Tables, table_at, id_of}
use Rattle.qe_schema.specs.Fits.{Ascending}
use Rattle.qe_reading.specs.Look.{looked_up, whole_look}
use Rattle.qe_schema.specs.Tests.{is_yes}
use Rattle.qe_reading.specs.Order.{value_by, place_of, directed, order_cmp, rows_cmp, ordered}
use Rattle.qe_reading.proofs.Sorting.{AreApart, all_then, same_rows, is_sorted, is_stable, only_sorted, is_strict, Rising, rising_is_sorted}
use Rattle.qe_reading.proofs.Layers.{truth_all}

directed_total : (descending : Bool) → IsTotalOrder (directed descending value_cmp)
directed_total false = value_cmp_total
directed_total true = subst IsTotalOrder (λ i a b. value_cmp_total.antisymm b a i) (back_total value_cmp_total)

order_total : (order : OrderBy) → IsTotalOrder (order_cmp order)
order_total order = then_total (on_total (place_of order.nulls_first) nat_cmp_total) (directed_total order.descending)

module _ (schema : Schema) (tables : Tables) (table : ℕ) where
  pub rows_total : (orders : List OrderBy) → IsTotalOrder (rows_cmp schema tables table orders)
  rows_total [] = on_total (id_of (table_at schema table)) (lists_total value_cmp_total)
  rows_total (order ∷ orders) = then_total (on_total (value_by schema tables table order) (order_total order)) (rows_total orders)

  unlevel : (r s : Ordering) → is_eq s ≡ false → is_eq (ordering_then r s) ≡ false
  unlevel Less s e = refl
  unlevel Equal s e = e
  unlevel Greater s e = refl

  never_level : (orders : List OrderBy) (a b : Row) → values_cmp (id_of (table_at schema table) a) (id_of (table_at schema table) b) ≡ Less → is_eq (rows_cmp schema tables table orders a b) ≡ false
  never_level [] a b e = ap is_eq e
  never_level (order ∷ orders) a b e = unlevel (order_cmp order (value_by schema tables table order a) (value_by schema tables table order b)) (rows_cmp schema tables table orders a b) (never_level orders a b e)

  apart : (orders : List OrderBy) (rows : List Row) → Ascending (table_at schema table) rows → AreApart (rows_cmp schema tables table orders) rows
  apart orders [] ascending = tt
  apart orders (row ∷ rows) ascending = (all_then (λ later e. never_level orders row later e) rows ascending.0, apart orders rows ascending.1)

pub ordered_rows : (schema : Schema) (tables : Tables) (table : ℕ) (orders : List OrderBy) (rows : List Row) → IsPermutation rows (ordered schema tables table orders rows)
ordered_rows schema tables table orders rows = same_rows (rows_cmp schema tables table orders) rows

pub ordered_sorted : (schema : Schema) (tables : Tables) (table : ℕ) (orders : List OrderBy) (rows : List Row) → IsSorted (rows_cmp schema tables table orders) (ordered schema tables table orders rows)
ordered_sorted schema tables table orders rows = is_sorted (rows_cmp schema tables table orders) (rows_total schema tables table orders) rows

pub ordered_stable : (schema : Schema) (tables : Tables) (table : ℕ) (orders : List OrderBy) (rows : List Row) → IsStable (rows_cmp schema tables table orders) rows (ordered schema tables table orders rows)
ordered_stable schema tables table orders rows = is_stable (rows_cmp schema tables table orders) (rows_total schema tables table orders) rows

pub ordered_strict : (schema : Schema) (tables : Tables) (table : ℕ) (orders : List OrderBy) (rows : List Row)
    → Ascending (table_at schema table) rows → IsStrictlySortedBy (rows_cmp schema tables table orders) (ordered schema tables table orders rows)
ordered_strict schema tables table orders rows ascending = is_strict (rows_cmp schema tables table orders) (rows_total schema tables table orders) rows (apart schema tables table orders rows ascending)

pub ordered_only : (schema : Schema) (tables : Tables) (table : ℕ) (orders : List OrderBy) (rows found : List Row)
    → IsSorted (rows_cmp schema tables table orders) found → IsStable (rows_cmp schema tables table orders) rows found → found ≡ ordered schema tables table orders rows
ordered_only schema tables table orders rows found sorted stable =
    let cmp = rows_cmp schema tables table orders in
    only_sorted cmp (rows_total schema tables table orders) (ordered schema tables table orders rows) found (ordered_sorted schema tables table orders rows) sorted (λ row. stable row ∙ sym (ordered_stable schema tables table orders rows row))

-- ---- a look that asks for nothing

rising : (schema : Schema) (tables : Tables) (table : ℕ) (rows : List Row) → Ascending (table_at schema table) rows → Rising (rows_cmp schema tables table []) rows
rising schema tables table [] ascending = tt
rising schema tables table (row ∷ rows) ascending = (all_then (λ later e. ap is_gt e) rows ascending.0, rising schema tables table rows ascending.1)

keep_all : (rows : List Row) → filter (λ row. true) rows ≡ rows
keep_all [] = refl
keep_all (row ∷ rows) = ap (λ rest. row ∷ rest) (keep_all rows)

pub whole_is : (schema : Schema) (tables : Tables) (table : ℕ) (rows : List Row) → Ascending (table_at schema table) rows → looked_up schema tables table whole_look rows ≡ rows
whole_is schema tables table rows ascending =
    (λ i. ordered schema tables table [] (filter (λ row. is_yes (truth_all schema tables [] i table row)) rows))
    ∙ ap (ordered schema tables table []) (keep_all rows)
    ∙ sym (ordered_only schema tables table [] rows rows (rising_is_sorted (rows_cmp schema tables table []) (rows_total schema tables table []) rows (rising schema tables table rows ascending)) (λ row. refl))
