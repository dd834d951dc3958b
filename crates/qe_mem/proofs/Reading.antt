-- What is read of the kept tables is what is told.
use Rattle.std.proofs.Common.{◌≡◌, ℕ, zero, suc, ◌+◌, ◌≤◌, List, [], ◌∷◌, ◌++◌, map, filter, take, drop, length, slice_get, unwrap_or, Option, Some, None, Bool, true, false, cond, ◌==◌, refl, sym, ap, ◌∙◌, arith, add-one, Ordering, Less, Equal, Greater}
use Rattle.std.specs.Prelude.{Result, Ok, Err, IfOk}
use Rattle.std.specs.Ordering.{is_le, is_ge, ordering_then, ordering_reverse}
use Rattle.std.proofs.lemmas.List.{length-map}
use Rattle.std.proofs.lemmas.Option.{get_or_from_slice_get, unwrap_or-slice_get}
use Rattle.qe_base.specs.declared.schema.Table.{Table}
use Rattle.qe_base.specs.declared.value.Row.{Row}
use Rattle.qe_schema.specs.Columns.{values_cmp}
use Rattle.qe_schema.specs.Tables.{table_at, id_columns, id_of}
use Rattle.qe_view.specs.After.{pair_row, rows_in, is_from, turned, page_among}
use Rattle.qe_view.specs.Layouts.{Layout, IsLayout, foreign_key_of, foreign_columns}
use Rattle.qe_view.specs.declared.layout.ForeignKey.{ForeignKey}
use Rattle.qe_mem.specs.KeyOrder.{values_cmp_total}
use Rattle.qe_mem.specs.Listings.{Listing, is_beyond}
use Rattle.qe_mem.specs.Kept.{kept_at, nothing_kept, with_order, with_orders, model_rows, link_pairs, tables_of, ArePairsIf, ArePairs, IsPageOf}
use Rattle.qe_mem.specs.declared.table.MemTable.{MemTable}
use Rattle.qe_mem.proofs.Telling.{by_ids, columns_at, model_ids, there_is, model_within}
use Rattle.qe_mem.proofs.Making.{pair_rows, pairs_at}

append_none : (xs : List Row) → xs ++ [] ≡ xs
append_none [] = refl
append_none (x ∷ xs) = ap (λ l. x ∷ l) (append_none xs)

by_kind : (link : Bool) (rows : List Row) → ArePairsIf link rows → model_rows link rows ++ map pair_row (link_pairs link rows) ≡ rows
by_kind true rows pairs = pair_rows rows pairs
by_kind false rows pairs = append_none rows

-- the rows of a table are those that are kept
pub rows_told : (kept : List MemTable) (table : ℕ) → ArePairs kept → rows_in (tables_of kept) table ≡ (kept_at kept table).rows.rows
rows_told kept table pairs = by_kind (kept_at kept table).link (kept_at kept table).rows.rows (pairs_at kept table pairs)

pub rows_of_found : (kept : List MemTable) (table : ℕ) (found : MemTable) → ArePairs kept → Some found ≡ slice_get kept table → found.rows.rows ≡ rows_in (tables_of kept) table
rows_of_found kept table found pairs is = sym (ap (λ (t : MemTable). t.rows.rows) (get_or_from_slice_get kept table found nothing_kept (sym is))) ∙ sym (rows_told kept table pairs)

pub rows_of_none : (kept : List MemTable) (table : ℕ) → ArePairs kept → (let found : Option MemTable = None in found) ≡ slice_get kept table → [] ≡ rows_in (tables_of kept) table
rows_of_none kept table pairs is = ap (λ (found : Option MemTable). (unwrap_or found nothing_kept).rows.rows) is ∙ ap (λ (t : MemTable). t.rows.rows) (unwrap_or-slice_get kept table nothing_kept) ∙ sym (rows_told kept table pairs)

-- ---- pages

then_none : (o : Ordering) → ordering_then o Equal ≡ o
then_none Less = refl
then_none Equal = refl
then_none Greater = refl

turned_le : (o : Ordering) → is_le (ordering_reverse o) ≡ is_ge o
turned_le Less = refl
turned_le Equal = refl
turned_le Greater = refl

turned_ge : (o : Ordering) → is_ge (ordering_reverse o) ≡ is_le o
turned_ge Less = refl
turned_ge Equal = refl
turned_ge Greater = refl

beyond_is_from : (table : Table) (from : Option Row) (backward : Bool) (row : Row) → is_beyond (by_ids (id_columns table)) from backward row ≡ is_from table from backward row
beyond_is_from table None backward row = refl
beyond_is_from table (Some id) false row = ap is_le (then_none (values_cmp id.values (id_of table row)) ∙ values_cmp_total.antisymm id.values (id_of table row)) ∙ turned_le (values_cmp (id_of table row) id.values)
beyond_is_from table (Some id) true row = ap is_ge (then_none (values_cmp id.values (id_of table row)) ∙ values_cmp_total.antisymm id.values (id_of table row)) ∙ turned_ge (values_cmp (id_of table row) id.values)

pub page_told : (kept : List MemTable) (table : ℕ) (found : MemTable) (from : Option Row) (backward : Bool) (count : ℕ) (rows : List Row) → Some found ≡ slice_get kept table
    → rows ≡ take count (turned backward (filter (is_beyond found.rows.columns from backward) found.rows.rows)) → IsPageOf kept table from backward count rows
page_told kept table found from backward count rows is rows_are schema is_for model =
    let one : kept_at kept table ≡ found = get_or_from_slice_get kept table found nothing_kept (sym is) in
    let not_link = (model_within schema kept is_for table _ refl model).1 in
    rows_are
    ∙ ap (λ (t : MemTable). take count (turned backward (filter (is_beyond t.rows.columns from backward) t.rows.rows))) (sym one)
    ∙ ap (λ c. take count (turned backward (filter (is_beyond c from backward) (kept_at kept table).rows.rows))) (model_ids schema kept is_for table not_link)
    ∙ (λ i. take count (turned backward (filter (λ row. beyond_is_from (table_at schema table) from backward row i) (kept_at kept table).rows.rows)))
    ∙ ap (λ b. page_among (table_at schema table) from backward count (model_rows b (kept_at kept table).rows.rows)) (sym (ap (λ c. c.0) (columns_at schema kept is_for table) ∙ not_link))

pub if_page : {E : Type 0} (kept : List MemTable) (table : ℕ) (found : MemTable) (from : Option Row) (backward : Bool) (count : ℕ) (result : Result (List Row) E) → Some found ≡ slice_get kept table
    → IfOk result (λ rows. rows ≡ take count (turned backward (filter (is_beyond found.rows.columns from backward) found.rows.rows))) → IfOk result (IsPageOf kept table from backward count)
if_page kept table found from backward count (Ok rows) is rows_are = page_told kept table found from backward count rows is rows_are
if_page kept table found from backward count (Err e) is rows_are = tt

pub no_page : (kept : List MemTable) (table : ℕ) (from : Option Row) (backward : Bool) (count : ℕ) (rows : List Row) → (let found : Option MemTable = None in found) ≡ slice_get kept table → IsPageOf kept table from backward count rows
no_page kept table from backward count rows is schema is_for model = absurd (let h = is ∙ there_is schema kept is_for table (model_within schema kept is_for table _ refl model).0 in cc)

-- ---- foreign keys

filter_length : {X : Type 0} (p : X → Bool) (xs : List X) → length (filter p xs) ≤ length xs
filter_length p [] = omega arith
filter_length {X} p (x ∷ xs) = by_test (p x) (filter_length p xs)
  where
    by_test : (b : Bool) → length (filter p xs) ≤ length xs → length (cond b (x ∷ filter p xs) (filter p xs)) ≤ length (x ∷ xs)
    by_test true later = omega arith
    by_test false later = omega arith

pub few_foreign : (layout : Layout) (table : ℕ) → IsLayout layout → length (foreign_columns table layout.foreign_keys) ≤ 32768
few_foreign layout table (schema, is, value) =
    let most : length schema.relations ≤ 32768 = is.small.relations in
    let keys : length layout.foreign_keys ≡ length schema.relations = ap (λ (all : Layout). length all.foreign_keys) value ∙ length-map schema.relations foreign_key_of in
    let columns : length (foreign_columns table layout.foreign_keys) ≡ length (filter (λ (key : ForeignKey). key.child.0 == table) layout.foreign_keys) = length-map (filter (λ (key : ForeignKey). key.child.0 == table) layout.foreign_keys) (λ key. key.columns) in
    let fewer : length (filter (λ (key : ForeignKey). key.child.0 == table) layout.foreign_keys) ≤ length layout.foreign_keys = filter_length (λ (key : ForeignKey). key.child.0 == table) layout.foreign_keys in
    omega arith

drop_found : {X : Type 0} (xs : List X) (at : ℕ) (x : X) → slice_get xs at ≡ Some x → drop at xs ≡ x ∷ drop (suc at) xs
drop_found [] at x is = cc
drop_found {X} (y ∷ xs) zero x is = ap (λ z. z ∷ xs) (the_one is)
  where
    the_one : Some y ≡ Some x → y ≡ x
    the_one is = cc
drop_found (y ∷ xs) (suc at) x is = drop_found xs at x is

-- one foreign key more
pub key_more : (ids : List ℕ) (keys : List (List ℕ)) (at : ℕ) (key : List ℕ) (orders after all : List Listing) → Some key ≡ slice_get keys at → after ≡ with_order ids key orders → with_orders ids (drop at keys) orders ≡ all → with_orders ids (drop (at + 1) keys) after ≡ all
key_more ids keys at key orders after all is one so_far = ap (with_orders ids (drop (at + 1) keys)) one ∙ ap (λ l. with_orders ids l orders) (sym (drop_found keys at key (sym is) ∙ ap (λ n. key ∷ drop n keys) (sym (add-one at)))) ∙ so_far

pub keys_end : (ids : List ℕ) (keys : List (List ℕ)) (at : ℕ) (orders all : List Listing) → (let found : Option (List ℕ) = None in found) ≡ slice_get keys at → with_orders ids (drop at keys) orders ≡ all → orders ≡ all
keys_end ids keys at orders all is so_far = ap (λ l. with_orders ids l orders) (sym (none_left keys at is)) ∙ so_far
  where
    none_left : (keys : List (List ℕ)) (at : ℕ) → (let found : Option (List ℕ) = None in found) ≡ slice_get keys at → drop at keys ≡ []
    none_left [] zero is = refl
    none_left [] (suc at) is = refl
    none_left (key ∷ keys) zero is = cc
    none_left (key ∷ keys) (suc at) is = none_left keys at is

-- orders by one list after another
pub orders_after : (ids : List ℕ) (keys more : List (List ℕ)) (orders : List Listing) → with_orders ids (keys ++ more) orders ≡ with_orders ids more (with_orders ids keys orders)
orders_after ids [] more orders = refl
orders_after ids (key ∷ keys) more orders = orders_after ids keys more (with_order ids key orders)

pub all_made : (ids given : List ℕ) (keys foreign indexes sides : List (List ℕ)) (none first second third last : List Listing) → given ≡ ids → none ≡ [] → first ≡ with_orders given keys none → second ≡ with_orders given foreign first → third ≡ with_orders given indexes second
    → last ≡ with_orders given sides third → last ≡ with_orders ids (keys ++ foreign ++ indexes ++ sides) []
all_made ids given keys foreign indexes sides none first second third last same is_none is_first is_second is_third is_last =
    is_last ∙ ap (with_orders given sides) (is_third ∙ ap (with_orders given indexes) (is_second ∙ ap (with_orders given foreign) (is_first ∙ ap (with_orders given keys) is_none)))
    ∙ ap (λ l. with_orders given sides (with_orders given indexes l)) (sym (orders_after given keys foreign []))
    ∙ ap (with_orders given sides) (sym (orders_after given (keys ++ foreign) indexes []))
    ∙ sym (orders_after given (keys ++ foreign ++ indexes) sides [])
    ∙ ap (λ l. with_orders l (keys ++ foreign ++ indexes ++ sides) []) same
