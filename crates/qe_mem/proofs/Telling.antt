-- The rows that are kept after changes are those that are told.
use Rattle.std.proofs.Common.{◌≡◌, ℕ, ◌<◌, ◌==◌, List, [], ◌∷◌, ◌++◌, map, filter, length, get_or, slice_get, unwrap_or, Option, Some, None, Bool, true, false, cond, not, ◌&&◌, refl, sym, ap, subst, ◌∙◌, if◌then◌else◌, Ordering, Less, Equal, Greater, is_eq}
use Rattle.std.specs.List.{list_all}
use Rattle.std.specs.List.Sorted.{IsStrictlySortedBy}
use Rattle.std.specs.Ordering.{is_lt, is_gt, ordering_then, ordering_reverse}
use Rattle.std.specs.Cmp.Lexicographic.{lists_ties}
use Rattle.std.proofs.Math.ListN.{get_or-map}
use Rattle.std.proofs.lemmas.Bool.{and_parts, eqb-true}
use Rattle.std.proofs.lemmas.List.{length-map}
use Rattle.std.proofs.lemmas.Option.{slice_get-get_or, unwrap_or-slice_get, slice_get_within}
use Rattle.qe_base.specs.Schemas.{Schema}
use Rattle.qe_base.specs.Values.{value_cmp}
use Rattle.qe_base.specs.declared.schema.Table.{Table}
use Rattle.qe_base.specs.declared.value.Row.{Row}
use Rattle.qe_base.specs.declared.value.Value.{Value}
use Rattle.qe_schema.specs.Columns.{Values, at_columns, are_same, values_cmp}
use Rattle.qe_schema.specs.Pairs.{pair_cmp, is_pair, with_pair, without_pair}
use Rattle.qe_schema.specs.Put.{put_among}
use Rattle.qe_schema.specs.Tables.{Tables, table_at, no_table, id_columns, id_of, is_model, is_link, is_model_table, is_link_table}
use Rattle.qe_view.specs.After.{after, after_all, pair_row, without_id}
use Rattle.qe_view.specs.Right.{is_right}
use Rattle.qe_view.specs.declared.changes.Change.{Change}
use Rattle.qe_view.specs.declared.changes.Change.TheVariants.{Remove, Put, Unlink, Link, Counter}
use Rattle.qe_mem.specs.Keys.{keyed_cmp, under, stands_at, row_order}
use Rattle.qe_mem.specs.KeyOrder.{keyed_cmp_total, values_cmp_total}
use Rattle.qe_mem.specs.Listings.{found_at}
use Rattle.qe_mem.specs.Plans.{Pending, gone_step, come_step, step_of, noted_all}
use Rattle.qe_mem.specs.Kept.{ids_by, kept_at, nothing_kept, columns_of, columns_for, IsKeptFor, AreExact}
use Rattle.qe_mem.specs.declared.keyed.Columns.{Columns}
use Rattle.qe_mem.specs.declared.keyed.Columns.TheVariants.{Whole, Listed}
use Rattle.qe_mem.specs.declared.table.MemTable.{MemTable}
use Rattle.qe_mem.proofs.Standing.{same_rows}
use Rattle.qe_mem.proofs.Swapped.{said_at, by_entry}
use Rattle.qe_mem.proofs.Exactness.{IsPending, done_table, done_all, done_at, done_found, done_sorted, exact_at, pending_at}
use Rattle.qe_mem.proofs.Noting.{nothing_pending, none_pending, none_at, all_pending, all_length, all_agree, all_sorted, set_row, stepped, stepped_all}

-- ---- the rows of one table are those after its steps

module _ (kept : List MemTable) (changes : List Change) (table : ℕ) (exact : AreExact kept) where
  abbrev pendings : List Pending
  pendings = noted_all kept changes (nothing_pending kept)

  abbrev pending : Pending
  pending = get_or pendings table []

  abbrev one : MemTable
  one = kept_at kept table

  abbrev ids_here : Columns
  ids_here = one.rows.columns

  in_order : IsStrictlySortedBy (row_order ids_here) one.rows.rows
  in_order = exact_at kept table exact

  count : length pendings ≡ length kept
  count = all_length kept changes (nothing_pending kept) ∙ length-map kept (λ _. [])

  is_pending : IsPending pending one
  is_pending = pending_at pendings kept table (all_pending kept changes (nothing_pending kept) (none_pending kept))

  pub rows_done : (kept_at (done_all pendings kept) table).rows.rows ≡ stepped_all ids_here table kept changes one.rows.rows
  rows_done =
      ap (λ (t : MemTable). t.rows.rows) (done_at pendings kept table count)
      ∙ same_rows keyed_cmp_total (under ids_here) (done_table pending one).rows.rows (stepped_all ids_here table kept changes one.rows.rows)
      (done_sorted pending one in_order is_pending)
      (all_sorted ids_here table kept changes one.rows.rows refl in_order)
      (λ row. done_found pending one in_order is_pending row
      ∙ all_agree ids_here table kept changes (nothing_pending kept) one.rows.rows row (found_at one.rows (under ids_here row)) refl (length-map kept (λ _. [])) in_order (ap (λ es. by_entry ids_here row (said_at ids_here row es) (found_at one.rows (under ids_here row))) (none_at kept table)))

-- ---- rows by ids, as the definition of changes has them

then_equal : (o : Ordering) → ordering_then o Equal ≡ o
then_equal Less = refl
then_equal Equal = refl
then_equal Greater = refl

abbrev pub by_ids : List ℕ → Columns
by_ids ids = Listed ids []

same_by_order : (xs ys : Values) → are_same xs ys ≡ is_eq (values_cmp xs ys)
same_by_order = lists_ties value_cmp (λ x y. refl)

turned_lt : (o : Ordering) → is_lt (ordering_reverse o) ≡ is_gt o
turned_lt Less = refl
turned_lt Equal = refl
turned_lt Greater = refl

turned_gt : (o : Ordering) → is_gt (ordering_reverse o) ≡ is_lt o
turned_gt Less = refl
turned_gt Equal = refl
turned_gt Greater = refl

turned_eq : (o : Ordering) → is_eq (ordering_reverse o) ≡ is_eq o
turned_eq Less = refl
turned_eq Equal = refl
turned_eq Greater = refl

-- a place by ids alone
whole_place : (ids : List ℕ) (id row : Row) → keyed_cmp (under Whole id) (under (by_ids ids) row) ≡ values_cmp id.values (at_columns ids row)
whole_place ids id row = then_equal (values_cmp id.values (at_columns ids row))

listed_place : (ids : List ℕ) (one row : Row) → keyed_cmp (under (by_ids ids) one) (under (by_ids ids) row) ≡ values_cmp (at_columns ids one) (at_columns ids row)
listed_place ids one row = then_equal (values_cmp (at_columns ids one) (at_columns ids row))

values_back : (xs ys : Values) → values_cmp xs ys ≡ ordering_reverse (values_cmp ys xs)
values_back xs ys = values_cmp_total.antisymm xs ys

removed : (table : Table) (id : Row) (rows : List Row) → without_id table id.values rows ≡ set_row (by_ids (id_columns table)) (under Whole id) None rows
removed table id rows = λ i. filter (λ row. not (same row i)) rows
  where
    same : (row : Row) → are_same (id_of table row) id.values ≡ stands_at (by_ids (id_columns table)) (under Whole id) row
    same row =
        same_by_order (id_of table row) id.values ∙ ap is_eq (values_back (id_of table row) id.values) ∙ turned_eq (values_cmp id.values (id_of table row))
        ∙ ap is_eq (sym (whole_place (id_columns table) id row))

put : (table : Table) (row : Row) (rows : List Row) → put_among table row rows ≡ set_row (by_ids (id_columns table)) (under (by_ids (id_columns table)) row) (Some row) rows
put table row rows = λ i. filter (λ other. before other i) rows ++ row ∷ filter (λ other. behind other i) rows
  where
    before : (other : Row) → is_lt (values_cmp (id_of table other) (id_of table row)) ≡ is_gt (keyed_cmp (under (by_ids (id_columns table)) row) (under (by_ids (id_columns table)) other))
    before other = ap is_lt (values_back (id_of table other) (id_of table row)) ∙ turned_lt (values_cmp (id_of table row) (id_of table other)) ∙ ap is_gt (sym (listed_place (id_columns table) row other))

    behind : (other : Row) → is_gt (values_cmp (id_of table other) (id_of table row)) ≡ is_lt (keyed_cmp (under (by_ids (id_columns table)) row) (under (by_ids (id_columns table)) other))
    behind other = ap is_gt (values_back (id_of table other) (id_of table row)) ∙ turned_gt (values_cmp (id_of table row) (id_of table other)) ∙ ap is_lt (sym (listed_place (id_columns table) row other))

-- ---- pairs as rows

abbrev pub of_pairs : Columns
of_pairs = by_ids (0 ∷ 1 ∷ [])

filter_mapped : {X Y : Type 0} (f : X → Y) (p : X → Bool) (q : Y → Bool) → ((x : X) → p x ≡ q (f x)) → (xs : List X) → map f (filter p xs) ≡ filter q (map f xs)
filter_mapped f p q same [] = refl
filter_mapped f p q same (x ∷ xs) = by_test (p x) (filter_mapped f p q same xs) ∙ ap (λ b. cond b (f x ∷ filter q (map f xs)) (filter q (map f xs))) (same x)
  where
    by_test : (b : Bool) → map f (filter p xs) ≡ filter q (map f xs) → map f (cond b (x ∷ filter p xs) (filter p xs)) ≡ cond b (f x ∷ filter q (map f xs)) (filter q (map f xs))
    by_test true later = ap (λ l. f x ∷ l) later
    by_test false later = later

map_appended : {X Y : Type 0} (f : X → Y) (xs ys : List X) → map f (xs ++ ys) ≡ map f xs ++ map f ys
map_appended f [] ys = refl
map_appended f (x ∷ xs) ys = ap (λ l. f x ∷ l) (map_appended f xs ys)

then_both : (o p : Ordering) → is_eq (ordering_then o p) ≡ (is_eq o && is_eq p)
then_both Less p = refl
then_both Equal p = refl
then_both Greater p = refl

pair_place : (pair other : Value × Value) → keyed_cmp (under of_pairs (pair_row pair)) (under of_pairs (pair_row other)) ≡ pair_cmp pair other
pair_place pair other = listed_place (0 ∷ 1 ∷ []) (pair_row pair) (pair_row other) ∙ ap (ordering_then (value_cmp pair.0 other.0)) (then_equal (value_cmp pair.1 other.1))

pair_back : (pair other : Value × Value) → pair_cmp other pair ≡ ordering_reverse (keyed_cmp (under of_pairs (pair_row pair)) (under of_pairs (pair_row other)))
pair_back pair other = sym (pair_place other pair) ∙ keyed_cmp_total.antisymm (under of_pairs (pair_row other)) (under of_pairs (pair_row pair))

unlinked : (pair : Value × Value) (pairs : List (Value × Value)) → map pair_row (without_pair pair pairs) ≡ set_row of_pairs (under Whole (pair_row pair)) None (map pair_row pairs)
unlinked pair pairs = filter_mapped pair_row (λ other. not (is_pair pair other)) (λ row. not (stands_at of_pairs (under Whole (pair_row pair)) row)) (λ other. ap not (same other)) pairs
  where
    same : (other : Value × Value) → is_pair pair other ≡ stands_at of_pairs (under Whole (pair_row pair)) (pair_row other)
    same other =
        sym (then_both (value_cmp pair.0 other.0) (value_cmp pair.1 other.1))
        ∙ ap (λ o. is_eq (ordering_then (value_cmp pair.0 other.0) o)) (sym (then_equal (value_cmp pair.1 other.1)))
        ∙ ap is_eq (sym (whole_place (0 ∷ 1 ∷ []) (pair_row pair) (pair_row other)))

linked : (pair : Value × Value) (pairs : List (Value × Value)) → map pair_row (with_pair pair pairs) ≡ set_row of_pairs (under of_pairs (pair_row pair)) (Some (pair_row pair)) (map pair_row pairs)
linked pair pairs =
    map_appended pair_row (filter (λ other. is_lt (pair_cmp other pair)) pairs) (pair ∷ filter (λ other. is_gt (pair_cmp other pair)) pairs)
    ∙ (λ i. filter_mapped pair_row (λ other. is_lt (pair_cmp other pair)) (λ row. is_gt (keyed_cmp (under of_pairs (pair_row pair)) (under of_pairs row))) before pairs i ++ pair_row pair ∷ filter_mapped pair_row (λ other. is_gt (pair_cmp other pair)) (λ row. is_lt (keyed_cmp (under of_pairs (pair_row pair)) (under of_pairs row))) behind pairs i)
  where
    before : (other : Value × Value) → is_lt (pair_cmp other pair) ≡ is_gt (keyed_cmp (under of_pairs (pair_row pair)) (under of_pairs (pair_row other)))
    before other = ap is_lt (pair_back pair other) ∙ turned_lt (keyed_cmp (under of_pairs (pair_row pair)) (under of_pairs (pair_row other)))

    behind : (other : Value × Value) → is_gt (pair_cmp other pair) ≡ is_lt (keyed_cmp (under of_pairs (pair_row pair)) (under of_pairs (pair_row other)))
    behind other = ap is_gt (pair_back pair other) ∙ turned_gt (keyed_cmp (under of_pairs (pair_row pair)) (under of_pairs (pair_row other)))

-- ---- the tables that are kept for a schema

module _ (schema : Schema) (kept : List MemTable) (is_for : IsKeptFor schema.tables kept) where
  pub columns_at : (table : ℕ) → columns_of (kept_at kept table) ≡ columns_for (table_at schema table)
  columns_at table =
      sym (get_or-map columns_of kept table nothing_kept)
      ∙ ap (λ l. get_or l table (columns_for no_table)) is_for
      ∙ get_or-map columns_for schema.tables table no_table
      ∙ ap columns_for (sym (unwrap_or-slice_get schema.tables table no_table))

  kept_length : length kept ≡ length schema.tables
  kept_length = sym (length-map kept columns_of) ∙ ap length is_for ∙ length-map schema.tables columns_for

  pub there_is : (table : ℕ) → table < length schema.tables → slice_get kept table ≡ Some (kept_at kept table)
  there_is table within = slice_get-get_or kept table nothing_kept (subst (λ n. table < n) (sym kept_length) within)

  pub model_within : (table : ℕ) (found : Option Table) → slice_get schema.tables table ≡ found → is_model_table found ≡ true → (table < length schema.tables) × ((unwrap_or found no_table).link ≡ false)
  model_within table None is model = cc
  model_within table (Some one) is model = (slice_get_within schema.tables table one is, not_true one.link model)
    where
      not_true : (b : Bool) → not b ≡ true → b ≡ false
      not_true true is = cc
      not_true false is = refl

  link_within : (table : ℕ) (found : Option Table) → slice_get schema.tables table ≡ found → is_link_table found ≡ true → (table < length schema.tables) × ((unwrap_or found no_table).link ≡ true)
  link_within table None is link = cc
  link_within table (Some one) is link = (slice_get_within schema.tables table one is, link)

  pub model_ids : (table : ℕ) → (table_at schema table).link ≡ false → (kept_at kept table).rows.columns ≡ by_ids (id_columns (table_at schema table))
  model_ids table model = ap (λ c. c.1) (columns_at table) ∙ ap (λ b. by_ids (ids_by b (id_columns (table_at schema table)))) model

  pub link_ids : (table : ℕ) → (table_at schema table).link ≡ true → (kept_at kept table).rows.columns ≡ of_pairs
  link_ids table link = ap (λ c. c.1) (columns_at table) ∙ ap (λ b. by_ids (ids_by b (id_columns (table_at schema table)))) link

  -- where a table is of one kind, a change of the other kind is of another table
  other_kind : (table other : ℕ) (b : Bool) → (table_at schema table).link ≡ b → (table_at schema other).link ≡ not b → (table == other) ≡ false
  other_kind table other b is also = by_test (table == other) refl
    where
      differ : (b : Bool) → b ≡ not b → ⊥
      differ true is = cc
      differ false is = cc

      by_test : (d : Bool) → (table == other) ≡ d → (table == other) ≡ false
      by_test false same = same
      by_test true same = absurd (differ b (sym is ∙ ap (λ n. (table_at schema n).link) (eqb-true table other same) ∙ also))

  -- ---- the rows of a model

  module _ (table : ℕ) (model : (table_at schema table).link ≡ false) where
    abbrev ids : Columns
    ids = by_ids (id_columns (table_at schema table))

    set_here : (other : ℕ) (b : Bool) (there now : List Row) (rows : ℕ → List Row) → (table == other) ≡ b → (table ≡ other → there ≡ now) → (if b then there else rows table) ≡ cond b now (rows table)
    set_here other true there now rows is same = same (eqb-true table other is)
    set_here other false there now rows is same = refl

    one_row : (tables : Tables) (change : Change) → is_right schema change ≡ true → (after schema change tables).rows table ≡ stepped ids table (step_of kept change) (tables.rows table)
    one_row tables (Remove other id) right =
        let there = model_within other.0 _ refl (and_parts (is_model schema other.0) _ right).0 in
        set_here other.0 (table == other.0) (without_id (table_at schema other.0) id.values (tables.rows other.0)) (set_row ids (under Whole id) None (tables.rows table)) tables.rows refl
        (λ same. ap (λ n. without_id (table_at schema n) id.values (tables.rows n)) (sym same) ∙ removed (table_at schema table) id (tables.rows table))
        ∙ ap (λ (found : Option MemTable). stepped ids table (gone_step other id found) (tables.rows table)) (sym (there_is other.0 there.0))
    one_row tables (Put other row) right =
        let there = model_within other.0 _ refl (and_parts (is_model schema other.0) _ right).0 in
        set_here other.0 (table == other.0) (put_among (table_at schema other.0) row (tables.rows other.0)) (set_row ids (under (kept_at kept other.0).rows.columns row) (Some row) (tables.rows table)) tables.rows refl
        (λ same. ap (λ n. put_among (table_at schema n) row (tables.rows n)) (sym same) ∙ put (table_at schema table) row (tables.rows table)
        ∙ ap (λ c. set_row ids (under c row) (Some row) (tables.rows table)) (sym (model_ids table model) ∙ ap (λ n. (kept_at kept n).rows.columns) same))
        ∙ ap (λ (found : Option MemTable). stepped ids table (come_step other row found) (tables.rows table)) (sym (there_is other.0 there.0))
    one_row tables (Unlink other a b) right =
        let there = link_within other.0 _ refl (and_parts (is_link schema other.0) _ right).0 in
        ap (λ d. cond d (set_row ids (under Whole (pair_row (a, b))) None (tables.rows table)) (tables.rows table)) (sym (other_kind table other.0 false model there.1))
        ∙ ap (λ (found : Option MemTable). stepped ids table (gone_step other (pair_row (a, b)) found) (tables.rows table)) (sym (there_is other.0 there.0))
    one_row tables (Link other a b) right =
        let there = link_within other.0 _ refl (and_parts (is_link schema other.0) _ right).0 in
        ap (λ d. cond d (set_row ids (under (kept_at kept other.0).rows.columns (pair_row (a, b))) (Some (pair_row (a, b))) (tables.rows table)) (tables.rows table)) (sym (other_kind table other.0 false model there.1))
        ∙ ap (λ (found : Option MemTable). stepped ids table (come_step other (pair_row (a, b)) found) (tables.rows table)) (sym (there_is other.0 there.0))
    one_row tables (Counter other last) right = refl

    pub model_told : (changes : List Change) (tables : Tables) → list_all (is_right schema) changes ≡ true → (after_all schema changes tables).rows table ≡ stepped_all ids table kept changes (tables.rows table)
    model_told [] tables right = refl
    model_told (change ∷ changes) tables right =
        let parts = and_parts (is_right schema change) (list_all (is_right schema) changes) right in
        model_told changes (after schema change tables) parts.1 ∙ ap (stepped_all ids table kept changes) (one_row tables change parts.0)

    one_pair : (tables : Tables) (change : Change) → is_right schema change ≡ true → (after schema change tables).pairs table ≡ tables.pairs table
    one_pair tables (Remove other id) right = refl
    one_pair tables (Put other row) right = refl
    one_pair tables (Unlink other a b) right =
        let there = link_within other.0 _ refl (and_parts (is_link schema other.0) _ right).0 in
        ap (λ d. if d then without_pair (a, b) (tables.pairs other.0) else tables.pairs table) (other_kind table other.0 false model there.1)
    one_pair tables (Link other a b) right =
        let there = link_within other.0 _ refl (and_parts (is_link schema other.0) _ right).0 in
        ap (λ d. if d then with_pair (a, b) (tables.pairs other.0) else tables.pairs table) (other_kind table other.0 false model there.1)
    one_pair tables (Counter other last) right = refl

    pub model_pairs : (changes : List Change) (tables : Tables) → list_all (is_right schema) changes ≡ true → (after_all schema changes tables).pairs table ≡ tables.pairs table
    model_pairs [] tables right = refl
    model_pairs (change ∷ changes) tables right =
        let parts = and_parts (is_right schema change) (list_all (is_right schema) changes) right in
        model_pairs changes (after schema change tables) parts.1 ∙ one_pair tables change parts.0

  -- ---- the pairs of a link table

  module _ (table : ℕ) (link : (table_at schema table).link ≡ true) where
    pair_here : (other : ℕ) (b : Bool) (there : List (Value × Value)) (now : List Row) (pairs : ℕ → List (Value × Value)) → (table == other) ≡ b → (table ≡ other → map pair_row there ≡ now) → map pair_row (if b then there else pairs table) ≡ cond b now (map pair_row (pairs table))
    pair_here other true there now pairs is same = same (eqb-true table other is)
    pair_here other false there now pairs is same = refl

    one_linked : (tables : Tables) (change : Change) → is_right schema change ≡ true → map pair_row ((after schema change tables).pairs table) ≡ stepped of_pairs table (step_of kept change) (map pair_row (tables.pairs table))
    one_linked tables (Remove other id) right =
        let there = model_within other.0 _ refl (and_parts (is_model schema other.0) _ right).0 in
        ap (λ d. cond d (set_row of_pairs (under Whole id) None (map pair_row (tables.pairs table))) (map pair_row (tables.pairs table))) (sym (other_kind table other.0 true link there.1))
        ∙ ap (λ (found : Option MemTable). stepped of_pairs table (gone_step other id found) (map pair_row (tables.pairs table))) (sym (there_is other.0 there.0))
    one_linked tables (Put other row) right =
        let there = model_within other.0 _ refl (and_parts (is_model schema other.0) _ right).0 in
        ap (λ d. cond d (set_row of_pairs (under (kept_at kept other.0).rows.columns row) (Some row) (map pair_row (tables.pairs table))) (map pair_row (tables.pairs table))) (sym (other_kind table other.0 true link there.1))
        ∙ ap (λ (found : Option MemTable). stepped of_pairs table (come_step other row found) (map pair_row (tables.pairs table))) (sym (there_is other.0 there.0))
    one_linked tables (Unlink other a b) right =
        let there = link_within other.0 _ refl (and_parts (is_link schema other.0) _ right).0 in
        pair_here other.0 (table == other.0) (without_pair (a, b) (tables.pairs other.0)) (set_row of_pairs (under Whole (pair_row (a, b))) None (map pair_row (tables.pairs table))) tables.pairs refl
        (λ same. ap (λ n. map pair_row (without_pair (a, b) (tables.pairs n))) (sym same) ∙ unlinked (a, b) (tables.pairs table))
        ∙ ap (λ (found : Option MemTable). stepped of_pairs table (gone_step other (pair_row (a, b)) found) (map pair_row (tables.pairs table))) (sym (there_is other.0 there.0))
    one_linked tables (Link other a b) right =
        let there = link_within other.0 _ refl (and_parts (is_link schema other.0) _ right).0 in
        pair_here other.0 (table == other.0) (with_pair (a, b) (tables.pairs other.0)) (set_row of_pairs (under (kept_at kept other.0).rows.columns (pair_row (a, b))) (Some (pair_row (a, b))) (map pair_row (tables.pairs table))) tables.pairs refl
        (λ same. ap (λ n. map pair_row (with_pair (a, b) (tables.pairs n))) (sym same) ∙ linked (a, b) (tables.pairs table)
        ∙ ap (λ c. set_row of_pairs (under c (pair_row (a, b))) (Some (pair_row (a, b))) (map pair_row (tables.pairs table))) (sym (link_ids table link) ∙ ap (λ n. (kept_at kept n).rows.columns) same))
        ∙ ap (λ (found : Option MemTable). stepped of_pairs table (come_step other (pair_row (a, b)) found) (map pair_row (tables.pairs table))) (sym (there_is other.0 there.0))
    one_linked tables (Counter other last) right = refl

    pub link_told : (changes : List Change) (tables : Tables) → list_all (is_right schema) changes ≡ true → map pair_row ((after_all schema changes tables).pairs table) ≡ stepped_all of_pairs table kept changes (map pair_row (tables.pairs table))
    link_told [] tables right = refl
    link_told (change ∷ changes) tables right =
        let parts = and_parts (is_right schema change) (list_all (is_right schema) changes) right in
        link_told changes (after schema change tables) parts.1 ∙ ap (stepped_all of_pairs table kept changes) (one_linked tables change parts.0)

    one_not_row : (tables : Tables) (change : Change) → is_right schema change ≡ true → (after schema change tables).rows table ≡ tables.rows table
    one_not_row tables (Remove other id) right =
        let there = model_within other.0 _ refl (and_parts (is_model schema other.0) _ right).0 in
        ap (λ d. if d then without_id (table_at schema other.0) id.values (tables.rows other.0) else tables.rows table) (other_kind table other.0 true link there.1)
    one_not_row tables (Put other row) right =
        let there = model_within other.0 _ refl (and_parts (is_model schema other.0) _ right).0 in
        ap (λ d. if d then put_among (table_at schema other.0) row (tables.rows other.0) else tables.rows table) (other_kind table other.0 true link there.1)
    one_not_row tables (Unlink other a b) right = refl
    one_not_row tables (Link other a b) right = refl
    one_not_row tables (Counter other last) right = refl

    pub link_rows : (changes : List Change) (tables : Tables) → list_all (is_right schema) changes ≡ true → (after_all schema changes tables).rows table ≡ tables.rows table
    link_rows [] tables right = refl
    link_rows (change ∷ changes) tables right =
        let parts = and_parts (is_right schema change) (list_all (is_right schema) changes) right in
        link_rows changes (after schema change tables) parts.1 ∙ one_not_row tables change parts.0
