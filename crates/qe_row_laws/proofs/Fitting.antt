-- Tables that fit a schema fit it after a delete.
use Rattle.std.proofs.Common.{◌≡◌, ◌⊎◌, inl, inr, ℕ, ℤ, Bool, true, false, cond, not, ◌&&◌, filter, List, [], ◌∷◌, map, Option, Some, None, Result, Ok, Err, refl, sym, ap, subst, ◌∙◌}
use Rattle.std.specs.List.{list_any, list_all, AllByRecursion}
use Rattle.std.specs.declared.cmp.Ordering.TheVariants.{Less}
use Rattle.std.proofs.lemmas.Bool.{true≢false, and_parts, not-true, false_from_ne_true}
use Rattle.qe_text.specs.Lists.{In}
use Rattle.qe_base.specs.declared.value.Row.{Row}
use Rattle.qe_base.specs.declared.value.Value.{Value}
use Rattle.qe_base.specs.declared.value.Value.TheVariants.{Null}
use Rattle.qe_base.specs.declared.schema.Action.{Action}
use Rattle.qe_base.specs.declared.schema.Action.TheVariants.{Cascade, Restrict, SetNull}
use Rattle.qe_base.specs.declared.schema.Link.{Link}
use Rattle.qe_base.specs.declared.schema.Relation.{Relation}
use Rattle.qe_base.specs.declared.schema.Table.{Table}
use Rattle.qe_base.specs.declared.answer.Rule.{Rule}
use Rattle.qe_base.specs.Schemas.{Schema, link_of}
use Rattle.qe_schema.specs.Sound.{IsSound}
use Rattle.qe_schema.proofs.Members.{passes}
use Rattle.qe_schema.specs.Columns.{has_null, value_at, at_columns, are_same, holds, values_cmp}
use Rattle.qe_schema.specs.Fits.{FitsSchema, fit_columns, Ascending, KeyApart, counting, at_number, is_within}
use Rattle.qe_schema.specs.Pairs.{PairsAscend, both_values}
use Rattle.qe_schema.specs.Tables.{Tables, no_rows, table_at, id_columns, id_of}
use Rattle.qe_writing.specs.WriteState.{WriteState}
use Rattle.qe_writing.specs.Doomed.{Place, place_of, refers, doomed_by, places}
use Rattle.qe_writing.specs.Delete.{is_set_null, is_among, kept_by, released, is_doomed_id, kept_pairs, without, delete_unless, delete_of}
use Rattle.qe_row_laws.specs.Deletes.{DeletesFit}
use Rattle.qe_row_laws.proofs.Columns.{nulls_are_optional, ids_are_required_at}
use Rattle.qe_row_laws.proofs.Doomed.{refers_between}
use Rattle.qe_schema.proofs.Equal.{same_values}
use Rattle.qe_row_laws.proofs.Filters.{any_in, all_left, tests_left}
use Rattle.qe_row_laws.proofs.Lists.{all_filtered}
use Rattle.qe_row_laws.proofs.PairOrder.{filter_ascends}
use Rattle.qe_row_laws.proofs.Nulls.{Nulled, OptionalAt, lets_go, released_nulled, released_fits, all_stay, held_values}

-- ---- rows of which some go, and the others change

ascending_left : (keep : Row → Bool) (change : Row → Row) (table : Table) (rows : List Row) → ((row : Row) → In row rows → id_of table (change row) ≡ id_of table row) → Ascending table rows → Ascending table (map change (filter keep rows))
unfolding In
ascending_left keep change table [] ids up = tt
ascending_left keep change table (row ∷ rows) ids up = by (keep row) (ascending_left keep change table rows (λ other is_in. ids other (inr is_in)) up.1)
  where
    later : AllByRecursion (λ other. values_cmp (id_of table (change row)) (id_of table other) ≡ Less) (map change (filter keep rows))
    later = all_left keep change (λ other. values_cmp (id_of table row) (id_of table other) ≡ Less) (λ other. values_cmp (id_of table (change row)) (id_of table other) ≡ Less) rows
        (λ other is_in less. (λ i. values_cmp (ids row (inl refl) i) (ids other (inr is_in) i)) ∙ less) up.0

    by : (b : Bool) → Ascending table (map change (filter keep rows)) → Ascending table (map change (cond b (row ∷ filter keep rows) (filter keep rows)))
    by true rest = (later, rest)
    by false rest = rest

-- rows that differ in a key go on to differ, since null differs from all
still_apart : (columns : List ℕ) (a b after_a after_b : Row) → Nulled a.values after_a.values → Nulled b.values after_b.values → holds columns (at_columns columns a) b ≡ false → holds columns (at_columns columns after_a) after_b ≡ false
still_apart columns a b after_a after_b nulled_a nulled_b apart = false_from_ne_true (holds columns (at_columns columns after_a) after_b) (λ is. true≢false (sym (held is) ∙ apart))
  where
    held : holds columns (at_columns columns after_a) after_b ≡ true → holds columns (at_columns columns a) b ≡ true
    held is =
        let parts = and_parts (not (has_null (at_columns columns after_a))) (are_same (at_columns columns after_b) (at_columns columns after_a)) is in
        let some = not-true (has_null (at_columns columns after_a)) parts.0 in
        let same = same_values (at_columns columns after_b) (at_columns columns after_a) parts.1 in
        let of_a = held_values a after_a nulled_a columns some in
        let of_b = held_values b after_b nulled_b columns (ap has_null same ∙ some) in
        (λ i. not (has_null (sym of_a i)) && are_same (sym of_b i) (sym of_a i)) ∙ is

apart_left : (keep : Row → Bool) (change : Row → Row) (columns : List ℕ) (rows : List Row) → ((row : Row) → Nulled row.values (change row).values) → KeyApart columns rows → KeyApart columns (map change (filter keep rows))
apart_left keep change columns [] nulled apart = tt
apart_left keep change columns (row ∷ rows) nulled apart = by (keep row) (apart_left keep change columns rows nulled apart.1)
  where
    later : AllByRecursion (λ other. holds columns (at_columns columns (change row)) other ≡ false) (map change (filter keep rows))
    later = all_left keep change (λ other. holds columns (at_columns columns row) other ≡ false) (λ other. holds columns (at_columns columns (change row)) other ≡ false) rows
        (λ other is_in one. still_apart columns row other (change row) (change other) (nulled row) (nulled other) one) apart.0

    by : (b : Bool) → KeyApart columns (map change (filter keep rows)) → KeyApart columns (map change (cond b (row ∷ filter keep rows) (filter keep rows)))
    by true rest = (later, rest)
    by false rest = rest

within_left : (last : ℤ) (number : Option ℕ) (old new : Row) → Nulled old.values new.values → list_all (is_within last) (at_number number old) ≡ true → list_all (is_within last) (at_number number new) ≡ true
within_left last None old new nulled within = refl
within_left last (Some number) old new nulled within = by (nulled number)
  where
    by : (value_at new number ≡ value_at old number) ⊎ (value_at new number ≡ Null) → is_within last (value_at new number) && true ≡ true
    by (inl same) = ap (λ v. is_within last v && true) same ∙ within
    by (inr gone) = ap (λ v. is_within last v && true) gone

-- ---- the tables

pub null_is : (action : Action) → is_set_null action ≡ true → action ≡ SetNull
null_is Cascade is = absurd (true≢false (sym is))
null_is Restrict is = absurd (true≢false (sym is))
null_is SetNull is = refl

-- a row that is let go is one of the relation's child, and the relation sets nulls
pub let_go : (doomed : List Place) (table : ℕ) (row : Row) (relation : Relation) → lets_go doomed table row relation ≡ true → (relation.on_delete ≡ SetNull) × (table ≡ relation.child.0)
let_go doomed table row relation is =
    let parts = and_parts (is_set_null relation.on_delete) (list_any (refers relation (place_of table row)) doomed) is in
    let parent = any_in (refers relation (place_of table row)) doomed parts.1 in
    (null_is relation.on_delete parts.0, (refers_between relation (place_of table row) parent.item parent.passes).0)

-- a row that fits its table does so when released
pub released_fit : (schema : Schema) → IsSound schema → (doomed : List Place) (table : ℕ) (row : Row) → fit_columns schema.choices (table_at schema table).columns row.values ≡ true
    → fit_columns schema.choices (table_at schema table).columns (released schema.relations doomed table row).values ≡ true
released_fit schema is doomed table row fits = released_fits schema.choices (table_at schema table).columns schema.relations doomed table row optional fits
  where
    optional : (relation : Relation) → In relation schema.relations → lets_go doomed table row relation ≡ true → (column : ℕ) → In column relation.child_columns → OptionalAt (table_at schema table).columns column
    optional relation is_in lets column among =
        let both = let_go doomed table row relation lets in
        subst (λ t. OptionalAt (table_at schema t).columns column) (sym both.1) (nulls_are_optional schema is relation is_in both.0 column among)

module _ (schema : Schema) (is : IsSound schema) (tables : Tables) (fits : FitsSchema schema tables) (doomed : List Place) where
  abbrev stays : ℕ → Row → Bool
  stays table row = not (is_among doomed (place_of table row))

  row_fits : (table : ℕ) (row : Row) → In row (tables.rows table) → fit_columns schema.choices (table_at schema table).columns row.values ≡ true
  row_fits table row is_in = passes (λ (r : Row). fit_columns schema.choices (table_at schema table).columns r.values) (tables.rows table) row (fits.kinds table) is_in

  same_id : (table : ℕ) (row : Row) → In row (tables.rows table) → id_of (table_at schema table) (released schema.relations doomed table row) ≡ id_of (table_at schema table) row
  same_id table row is_in =
      all_stay schema.choices (table_at schema table).columns row (released schema.relations doomed table row) (id_columns (table_at schema table)) (ids_are_required_at schema is table) (released_fit schema is doomed table row (row_fits table row is_in))
      (released_nulled schema.relations doomed table row)

  kept_none : (link : Option Link) (pairs : List (Value × Value)) → pairs ≡ [] → kept_pairs schema doomed link pairs ≡ []
  kept_none None pairs none = none
  kept_none (Some link) pairs none = ap (λ ps. kept_pairs schema doomed (Some link) ps) none

  kept_kinds : (link : Option Link) (p : Value × Value → Bool) (pairs : List (Value × Value)) → list_all p pairs ≡ true → list_all p (kept_pairs schema doomed link pairs) ≡ true
  kept_kinds None p pairs all = all
  kept_kinds (Some link) p pairs all = all_filtered p (λ pair. not (is_doomed_id schema doomed link.a.0 (pair.0 ∷ [])) && not (is_doomed_id schema doomed link.b.0 (pair.1 ∷ []))) pairs all

  kept_order : (link : Option Link) (pairs : List (Value × Value)) → PairsAscend pairs → PairsAscend (kept_pairs schema doomed link pairs)
  kept_order None pairs up = up
  kept_order (Some link) pairs up = filter_ascends (λ pair. not (is_doomed_id schema doomed link.a.0 (pair.0 ∷ [])) && not (is_doomed_id schema doomed link.b.0 (pair.1 ∷ []))) pairs up

  abbrev counter : ℕ → Option ℕ
  counter table = counting (table_at schema table).columns (id_columns (table_at schema table))

  abbrev counted : ℕ → Row → Bool
  counted table row = list_all (is_within (tables.last table)) (at_number (counter table) row)

  pub without_fits : FitsSchema schema (without schema doomed tables)
  without_fits = record {
    models = λ table other. ap (λ rows. map (released schema.relations doomed table) (filter (stays table) rows)) (fits.models table other);
    kinds = λ table. tests_left (stays table) (released schema.relations doomed table) (λ (row : Row). fit_columns schema.choices (table_at schema table).columns row.values)
        (λ (row : Row). fit_columns schema.choices (table_at schema table).columns row.values) (tables.rows table) (released_fit schema is doomed table) (fits.kinds table);
    order = λ table. ascending_left (stays table) (released schema.relations doomed table) (table_at schema table) (tables.rows table) (same_id table) (fits.order table);
    keys = λ table number key found. apart_left (stays table) (released schema.relations doomed table) key.columns (tables.rows table) (released_nulled schema.relations doomed table) (fits.keys table number key found);
    counters = λ table. (
      tests_left (stays table) (released schema.relations doomed table) (counted table) (counted table) (tables.rows table)
          (λ row. within_left (tables.last table) (counter table) row (released schema.relations doomed table row) (released_nulled schema.relations doomed table row)) (fits.counters table).0,
      (fits.counters table).1,
      (fits.counters table).2,
    );
    links = λ table other. kept_none (link_of table schema.links) (tables.pairs table) (fits.links table other);
    pair_kinds = λ table. kept_kinds (link_of table schema.links) (λ pair. fit_columns schema.choices (table_at schema table).columns (both_values pair)) (tables.pairs table) (fits.pair_kinds table);
    pair_order = λ table. kept_order (link_of table schema.links) (tables.pairs table) (fits.pair_order table);
  }

-- ---- deletes

abbrev tables_in : Result WriteState Rule → Tables
tables_in (Ok state) = state.tables
tables_in (Err broken) = no_rows

-- a delete that is accepted leaves what isn't doomed, and nothing kept a doomed row
accepted_by : (schema : Schema) (doomed : List Place) (keeps : Option ℕ) (state after : WriteState) → delete_unless schema doomed keeps state ≡ Ok after → (keeps ≡ None) × (after.tables ≡ without schema doomed state.tables)
accepted_by schema doomed None state after is = (refl, sym (ap tables_in is))
accepted_by schema doomed (Some relation) state after is = absurd cc

pub accepted : (schema : Schema) (given : List Place) (state after : WriteState) → delete_of schema given state ≡ Ok after
    → (kept_by schema.relations (doomed_by schema state.tables given) (places schema state.tables) ≡ None) × (after.tables ≡ without schema (doomed_by schema state.tables given) state.tables)
accepted schema given state after is = accepted_by schema (doomed_by schema state.tables given) (kept_by schema.relations (doomed_by schema state.tables given) (places schema state.tables)) state after is

pub deletes_fit : (schema : Schema) → IsSound schema → DeletesFit schema
deletes_fit schema is given state after fits ok = subst (FitsSchema schema) (sym (accepted schema given state after ok).1) (without_fits schema is state.tables fits (doomed_by schema state.tables given))
