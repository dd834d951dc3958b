-- What changes make of the kept tables is what they make of the told ones.
use Rattle.std.proofs.Common.{◌≡◌, ℕ, zero, suc, ◌<◌, ◌≤◌, ◌==◌, ℤ, List, [], ◌∷◌, map, length, drop, get_or, slice_get, slice_set, Option, Some, None, Bool, true, false, cond, refl, sym, ap, subst, ◌∙◌, arith, if◌then◌else◌}
use Rattle.std.specs.Int.{int_max}
use Rattle.std.specs.List.{AllByRecursion, list_all}
use Rattle.std.proofs.Math.ListN.{get_or-map, drop_of_length-le}
use Rattle.std.proofs.Math.Seq.{map-set_same}
use Rattle.std.proofs.lemmas.Bool.{and_parts}
use Rattle.std.proofs.lemmas.List.{length-map}
use Rattle.std.proofs.lemmas.Option.{slice_get-get_or, get_or_from_slice_get, slice_get_within}
use Rattle.qe_base.specs.Schemas.{Schema}
use Rattle.qe_base.specs.declared.schema.Table.{Table}
use Rattle.qe_base.specs.declared.value.Row.{Row}
use Rattle.qe_base.specs.declared.value.Value.{Value}
use Rattle.qe_schema.specs.Tables.{Tables, table_at, id_columns, is_model, is_model_table}
use Rattle.qe_view.specs.After.{after, after_all, pair_row}
use Rattle.qe_view.specs.Right.{is_right}
use Rattle.qe_view.specs.declared.changes.Change.{Change}
use Rattle.qe_view.specs.declared.changes.Change.TheVariants.{Remove, Put, Unlink, Link, Counter}
use Rattle.qe_mem.specs.Listings.{Listing}
use Rattle.qe_mem.specs.Plans.{Pending, raised_at, raised, raised_all, noted_all}
use Rattle.qe_mem.specs.Kept.{kept_at, nothing_kept, columns_of, columns_for, IsKeptFor, IsExact, AreExact, pair_of, model_rows, link_pairs, tables_of, IsTwoValues, ArePairsIf, ArePairs, MakesAll, MakesRight}
use Rattle.qe_mem.specs.declared.table.MemTable.{MemTable}
use Rattle.qe_mem.proofs.Exactness.{done_all, done_at, all_columns}
use Rattle.qe_mem.proofs.Noting.{nothing_pending, all_length, at_set, stepped_all}
use Rattle.qe_mem.proofs.Telling.{rows_done, columns_at, model_ids, link_ids, model_told, model_pairs, link_told, link_rows, by_ids, of_pairs}

-- ---- counters leave the rest

abbrev with_last : MemTable → ℤ → MemTable
with_last table last = record table { last = last }

raise_at_same : {X : Type 0} (f : MemTable → X) → ((table : MemTable) (last : ℤ) → f (with_last table last) ≡ f table) → (kept : List MemTable) (table : ℕ) (last : ℤ) (found : Option MemTable) → slice_get kept table ≡ found → map f (raised_at kept table last found) ≡ map f kept
raise_at_same f same kept table last None is = refl
raise_at_same f same kept table last (Some one) is = map-set_same f kept table (with_last one (int_max last one.last)) nothing_kept (same one (int_max last one.last) ∙ ap f (sym (get_or_from_slice_get kept table one nothing_kept is)))

raise_same : {X : Type 0} (f : MemTable → X) → ((table : MemTable) (last : ℤ) → f (with_last table last) ≡ f table) → (change : Change) (kept : List MemTable) → map f (raised change kept) ≡ map f kept
raise_same f same (Remove table id) kept = refl
raise_same f same (Put table row) kept = refl
raise_same f same (Unlink table a b) kept = refl
raise_same f same (Link table a b) kept = refl
raise_same f same (Counter table last) kept = raise_at_same f same kept table.0 last _ refl

pub all_raised_same : {X : Type 0} (f : MemTable → X) → ((table : MemTable) (last : ℤ) → f (with_last table last) ≡ f table) → (changes : List Change) (kept : List MemTable) → map f (raised_all changes kept) ≡ map f kept
all_raised_same f same [] kept = refl
all_raised_same f same (change ∷ changes) kept = all_raised_same f same changes (raised change kept) ∙ raise_same f same change kept

at_same : {X : Type 0} (f : MemTable → X) (kept others : List MemTable) → map f kept ≡ map f others → (table : ℕ) → f (kept_at kept table) ≡ f (kept_at others table)
at_same f kept others same table = sym (get_or-map f kept table nothing_kept) ∙ ap (λ l. get_or l table (f nothing_kept)) same ∙ get_or-map f others table nothing_kept

all_set : {X : Type 0} (P : X → Type 0) (xs : List X) (at : ℕ) (now : X) → AllByRecursion P xs → P now → AllByRecursion P (slice_set xs at now)
all_set P [] at now all one = tt
all_set P (x ∷ xs) zero now all one = (one, all.1)
all_set P (x ∷ xs) (suc at) now all one = (all.0, all_set P xs at now all.1 one)

all_found : {X : Type 0} (P : X → Type 0) (xs : List X) (at : ℕ) (x : X) → AllByRecursion P xs → slice_get xs at ≡ Some x → P x
all_found P [] at x all is = cc
all_found P (y ∷ xs) zero x all is = subst P (the_one is) all.0
  where
    the_one : Some y ≡ Some x → y ≡ x
    the_one is = cc
all_found P (y ∷ xs) (suc at) x all is = all_found P xs at x all.1 is

raise_at_exact : (kept : List MemTable) (table : ℕ) (last : ℤ) (found : Option MemTable) → slice_get kept table ≡ found → AreExact kept → AreExact (raised_at kept table last found)
raise_at_exact kept table last None is exact = exact
raise_at_exact kept table last (Some one) is exact = let found = all_found IsExact kept table one exact is in all_set IsExact kept table (with_last one (int_max last one.last)) exact (record { in_order = found.in_order; orders = found.orders })

raise_exact : (change : Change) (kept : List MemTable) → AreExact kept → AreExact (raised change kept)
raise_exact (Remove table id) kept exact = exact
raise_exact (Put table row) kept exact = exact
raise_exact (Unlink table a b) kept exact = exact
raise_exact (Link table a b) kept exact = exact
raise_exact (Counter table last) kept exact = raise_at_exact kept table.0 last _ refl exact

pub all_raised_exact : (changes : List Change) (kept : List MemTable) → AreExact kept → AreExact (raised_all changes kept)
all_raised_exact [] kept exact = exact
all_raised_exact (change ∷ changes) kept exact = all_raised_exact changes (raised change kept) (raise_exact change kept exact)

-- ---- counters as they are told

raised_length : (change : Change) (kept : List MemTable) → length (raised change kept) ≡ length kept
raised_length change kept = sym (length-map (raised change kept) columns_of) ∙ ap length (raise_same columns_of (λ table last. refl) change kept) ∙ length-map kept columns_of

module _ (schema : Schema) where
  last_within : (table : ℕ) (found : Option Table) → slice_get schema.tables table ≡ found → is_model_table found ≡ true → table < length schema.tables
  last_within table None is model = cc
  last_within table (Some one) is model = slice_get_within schema.tables table one is

  one_last : (change : Change) (kept : List MemTable) (tables : Tables) (table : ℕ) → length kept ≡ length schema.tables → is_right schema change ≡ true → ((n : ℕ) → (kept_at kept n).last ≡ tables.last n) → (kept_at (raised change kept) table).last ≡ (after schema change tables).last table
  one_last (Remove other id) kept tables table count right same = same table
  one_last (Put other row) kept tables table count right same = same table
  one_last (Unlink other a b) kept tables table count right same = same table
  one_last (Link other a b) kept tables table count right same = same table
  one_last (Counter other last) kept tables table count right same =
      let within : other.0 < length kept = subst (λ n. other.0 < n) (sym count) (last_within other.0 _ refl (and_parts (is_model schema other.0) _ right).0) in
      ap (λ (found : Option MemTable). (kept_at (raised_at kept other.0 last found) table).last) (slice_get-get_or kept other.0 nothing_kept within)
      ∙ ap (λ (t : MemTable). t.last) (at_set kept other.0 (with_last (kept_at kept other.0) (int_max last (kept_at kept other.0).last)) nothing_kept table within)
      ∙ by_test (table == other.0)
    where
      by_test : (b : Bool) → (let chosen : MemTable = cond b (with_last (kept_at kept other.0) (int_max last (kept_at kept other.0).last)) (kept_at kept table) in chosen).last ≡ (if b then int_max last (tables.last other.0) else tables.last table)
      by_test true = ap (int_max last) (same other.0)
      by_test false = same table

  all_last : (changes : List Change) (kept : List MemTable) (tables : Tables) (table : ℕ) → length kept ≡ length schema.tables → list_all (is_right schema) changes ≡ true → ((n : ℕ) → (kept_at kept n).last ≡ tables.last n)
      → (kept_at (raised_all changes kept) table).last ≡ (after_all schema changes tables).last table
  all_last [] kept tables table count right same = same table
  all_last (change ∷ changes) kept tables table count right same =
      let parts = and_parts (is_right schema change) (list_all (is_right schema) changes) right in
      all_last changes (raised change kept) (after schema change tables) table (raised_length change kept ∙ count) parts.1 (λ n. one_last change kept tables n count parts.0 same)

-- ---- all that is told

pub same_tables : (rows others : ℕ → List Row) (last later : ℕ → ℤ) (pairs more : ℕ → List (Value × Value)) → rows ≡ others → last ≡ later → pairs ≡ more → (let tables : Tables = record { rows = rows; last = last; pairs = pairs } in tables) ≡ record { rows = others; last = later; pairs = more }
same_tables rows others last later pairs more r l p = λ i. record { rows = r i; last = l i; pairs = p i }

-- rows of pairs are the pairs' rows
pub pair_rows : (rows : List Row) → AllByRecursion IsTwoValues rows → map pair_row (map pair_of rows) ≡ rows
pair_rows [] all = refl
pair_rows (row ∷ rows) all = λ i. all.0 i ∷ pair_rows rows all.1 i

pairs_again : (pairs : List (Value × Value)) → map pair_of (map pair_row pairs) ≡ pairs
pairs_again [] = refl
pairs_again (pair ∷ pairs) = ap (λ l. pair ∷ l) (pairs_again pairs)

two_values : (pairs : List (Value × Value)) → AllByRecursion IsTwoValues (map pair_row pairs)
two_values [] = tt
two_values (pair ∷ pairs) = (refl, two_values pairs)

abbrev pub HasPairs : MemTable → Type 0
HasPairs table = ArePairsIf table.link table.rows.rows

pub pairs_at : (kept : List MemTable) (table : ℕ) → ArePairs kept → HasPairs (kept_at kept table)
pairs_at [] table all = tt
pairs_at (one ∷ kept) zero all = all.0
pairs_at (one ∷ kept) (suc table) all = pairs_at kept table all.1

each_has_pairs : (kept : List MemTable) → ((table : ℕ) → table < length kept → HasPairs (kept_at kept table)) → ArePairs kept
each_has_pairs [] all = tt
each_has_pairs (one ∷ kept) all = (all zero (omega arith), each_has_pairs kept (λ table within. all (suc table) (omega arith)))

module _ (kept : List MemTable) (changes : List Change) (exact : AreExact kept) (schema : Schema) (is_for : IsKeptFor schema.tables kept) (pairs : ArePairs kept) (right : list_all (is_right schema) changes ≡ true) where
  abbrev pendings : List Pending
  pendings = noted_all kept changes (nothing_pending kept)

  abbrev done : List MemTable
  done = done_all pendings kept

  abbrev made : List MemTable
  made = raised_all changes done

  count : length pendings ≡ length kept
  count = all_length kept changes (nothing_pending kept) ∙ length-map kept (λ _. [])

  abbrev link_and_rows : MemTable → Bool × Listing
  link_and_rows table = (table.link, table.rows)

  parts_at : (table : ℕ) → link_and_rows (kept_at made table) ≡ link_and_rows (kept_at done table)
  parts_at table = at_same link_and_rows made done (all_raised_same link_and_rows (λ t last. refl) changes done) table

  link_at : (table : ℕ) → (kept_at made table).link ≡ (table_at schema table).link
  link_at table = ap (λ p. p.0) (parts_at table) ∙ ap (λ (t : MemTable). t.link) (done_at pendings kept table count) ∙ ap (λ c. c.0) (columns_at schema kept is_for table)

  rows_at : (table : ℕ) → (kept_at made table).rows.rows ≡ stepped_all (kept_at kept table).rows.columns table kept changes (kept_at kept table).rows.rows
  rows_at table = ap (λ p. p.1.rows) (parts_at table) ∙ rows_done kept changes table exact

  old_link : (table : ℕ) → (kept_at kept table).link ≡ (table_at schema table).link
  old_link table = ap (λ c. c.0) (columns_at schema kept is_for table)

  -- the rows of a model are told
  model_rows_at : (table : ℕ) → (table_at schema table).link ≡ false → (kept_at made table).rows.rows ≡ (after_all schema changes (tables_of kept)).rows table
  model_rows_at table model =
      rows_at table
      ∙ ap (λ c. stepped_all c table kept changes (kept_at kept table).rows.rows) (model_ids schema kept is_for table model)
      ∙ ap (λ b. stepped_all (by_ids (id_columns (table_at schema table))) table kept changes (model_rows b (kept_at kept table).rows.rows)) (sym (old_link table ∙ model))
      ∙ sym (model_told schema kept is_for table model changes (tables_of kept) right)

  -- the rows of a link table are the told pairs
  link_rows_at : (table : ℕ) → (table_at schema table).link ≡ true → (kept_at made table).rows.rows ≡ map pair_row ((after_all schema changes (tables_of kept)).pairs table)
  link_rows_at table link =
      rows_at table
      ∙ ap (λ c. stepped_all c table kept changes (kept_at kept table).rows.rows) (link_ids schema kept is_for table link)
      ∙ ap (stepped_all of_pairs table kept changes) (sym (pair_rows (kept_at kept table).rows.rows (subst (λ b. ArePairsIf b (kept_at kept table).rows.rows) (old_link table ∙ link) (pairs_at kept table pairs))))
      ∙ ap (λ b. stepped_all of_pairs table kept changes (map pair_row (link_pairs b (kept_at kept table).rows.rows))) (sym (old_link table ∙ link))
      ∙ sym (link_told schema kept is_for table link changes (tables_of kept) right)

  rows_told : (table : ℕ) → model_rows (kept_at made table).link (kept_at made table).rows.rows ≡ (after_all schema changes (tables_of kept)).rows table
  rows_told table = ap (λ b. model_rows b (kept_at made table).rows.rows) (link_at table) ∙ by_kind (table_at schema table).link refl
    where
      by_kind : (b : Bool) → (table_at schema table).link ≡ b → model_rows b (kept_at made table).rows.rows ≡ (after_all schema changes (tables_of kept)).rows table
      by_kind true link = ap (λ b. model_rows b (kept_at kept table).rows.rows) (sym (old_link table ∙ link)) ∙ sym (link_rows schema kept is_for table link changes (tables_of kept) right)
      by_kind false model = model_rows_at table model

  pairs_told : (table : ℕ) → link_pairs (kept_at made table).link (kept_at made table).rows.rows ≡ (after_all schema changes (tables_of kept)).pairs table
  pairs_told table = ap (λ b. link_pairs b (kept_at made table).rows.rows) (link_at table) ∙ by_kind (table_at schema table).link refl
    where
      by_kind : (b : Bool) → (table_at schema table).link ≡ b → link_pairs b (kept_at made table).rows.rows ≡ (after_all schema changes (tables_of kept)).pairs table
      by_kind true link = ap (map pair_of) (link_rows_at table link) ∙ pairs_again ((after_all schema changes (tables_of kept)).pairs table)
      by_kind false model = ap (λ b. link_pairs b (kept_at kept table).rows.rows) (sym (old_link table ∙ model)) ∙ sym (model_pairs schema kept is_for table model changes (tables_of kept) right)

  last_told : (table : ℕ) → (kept_at made table).last ≡ (after_all schema changes (tables_of kept)).last table
  last_told table =
      all_last schema changes done (tables_of kept) table (sym (length-map done columns_of) ∙ ap length (all_columns pendings kept ∙ is_for) ∙ length-map schema.tables columns_for) right
      (λ n. ap (λ (t : MemTable). t.last) (done_at pendings kept n count))

  pub makes_all : MakesAll schema changes kept made
  makes_all = record {
    told = same_tables _ _ _ _ _ _ (λ i table. rows_told table i) (λ i table. last_told table i) (λ i table. pairs_told table i);
    pairs = each_has_pairs made (λ table _. subst (λ b. ArePairsIf b (kept_at made table).rows.rows) (sym (link_at table)) (by_kind table (table_at schema table).link refl));
  }
    where
      by_kind : (table : ℕ) (b : Bool) → (table_at schema table).link ≡ b → ArePairsIf b (kept_at made table).rows.rows
      by_kind table true link = subst (AllByRecursion IsTwoValues) (sym (link_rows_at table link)) (two_values ((after_all schema changes (tables_of kept)).pairs table))
      by_kind table false model = tt

pub makes_right : (kept : List MemTable) (changes : List Change) → AreExact kept → MakesRight changes kept (raised_all changes (done_all (noted_all kept changes (nothing_pending kept)) kept))
makes_right kept changes exact schema is_for pairs right = makes_all kept changes exact schema is_for pairs (and_parts (list_all (is_right schema) changes) _ right).0

-- all changes were gone over
pub raised_to_end : (changes : List Change) (at : ℕ) (before after : List MemTable) → length changes ≤ at → raised_all (drop at changes) after ≡ raised_all changes before → after ≡ raised_all changes before
raised_to_end changes at before after past so_far = ap (λ l. raised_all l after) (sym (drop_of_length-le changes past)) ∙ so_far
