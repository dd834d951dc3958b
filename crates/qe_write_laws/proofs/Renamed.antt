-- Pairs go with a changed id, and go on fitting their link tables in order.
use Rattle.std.proofs.Common.{◌≡◌, ℕ, Bool, true, false, cond, List, [], ◌∷◌, map, Option, Some, None, unwrap_or, refl, sym, ap, subst, ◌∙◌, true≢false, IfSome}
use Rattle.std.specs.Prelude.{◌==◌, slice_get, slice_set}
use Rattle.std.specs.List.{list_all}
use Rattle.std.proofs.lemmas.Bool.{and_parts, and_from, eqb-true}
use Rattle.qe_text.specs.Lists.{In}
use Rattle.qe_base.specs.declared.schema.Column.{Column}
use Rattle.qe_base.specs.declared.schema.Link.{Link}
use Rattle.qe_base.specs.declared.schema.Table.{Table}
use Rattle.qe_base.specs.declared.value.Row.{Row}
use Rattle.qe_base.specs.declared.value.Value.{Value}
use Rattle.qe_base.specs.Schemas.{Schema, link_of}
use Rattle.qe_schema.specs.Keys.{HaveRequiredIds}
use Rattle.qe_schema.specs.References.{kinds_at}
use Rattle.qe_schema.specs.Tables.{column_at, Tables, no_table, table_at, is_model, is_model_table, id_columns, id_of}
use Rattle.qe_schema.specs.Columns.{Values, are_same}
use Rattle.qe_schema.specs.Fits.{fits_column, fit_columns, FitsSchema}
use Rattle.qe_schema.specs.Pairs.{PairsAscend, both_values}
use Rattle.qe_row_laws.specs.Puts.{FitsTable}
use Rattle.qe_row_laws.proofs.PairOrder.{with_ascends, all_with_pair, all_fit}
use Rattle.qe_writing.specs.Change.{in_order, first_or, renamed, renamed_if, renamed_pairs}
use Rattle.qe_schema.proofs.Members.{in_place}
use Rattle.qe_reading.specs.Related.{is_some_such}
use Rattle.qe_schema.specs.Links.{LinksAgree}
use Rattle.qe_write_laws.proofs.Columns.{value_in, set_fits, first_fits}

pub in_order_ascends : (pairs : List (Value × Value)) → PairsAscend (in_order pairs)
in_order_ascends [] = tt
in_order_ascends (pair ∷ pairs) = with_ascends pair (in_order pairs) (in_order_ascends pairs)

all_in_order : (p : Value × Value → Bool) (pairs : List (Value × Value)) → list_all p pairs ≡ true → list_all p (in_order pairs) ≡ true
all_in_order p [] all = refl
all_in_order p (pair ∷ pairs) all = let parts = and_parts (p pair) (list_all p pairs) all in all_with_pair p pair (in_order pairs) parts.0 (all_in_order p pairs parts.1)

all_mapped : (p : Value × Value → Bool) (f : Value × Value → Value × Value) (pairs : List (Value × Value)) → ((pair : Value × Value) → p pair ≡ true → p (f pair) ≡ true) → list_all p pairs ≡ true → list_all p (map f pairs) ≡ true
all_mapped p f [] keeps all = refl
all_mapped p f (pair ∷ pairs) keeps all = let parts = and_parts (p pair) (list_all p pairs) all in and_from (p (f pair)) (list_all p (map f pairs)) (keeps pair parts.0) (all_mapped p f pairs keeps parts.1)

-- ---- the id of a row that fits

some_model : (o : Option Table) → is_model_table o ≡ true → o ≡ Some (unwrap_or o no_table)
some_model None is = absurd (true≢false (sym is))
some_model (Some table) is = refl

-- a column of this number
record There (columns : List Column) (number : ℕ) : Type 0 where
  column : Column
  is : slice_get columns number ≡ Some column

-- as many values as columns
first_column : (schema : Schema) (columns : List Column) (a b : Value) → fit_columns schema.choices columns (a ∷ b ∷ []) ≡ true → There columns 0
first_column schema [] a b all = absurd (true≢false (sym all))
first_column schema (first ∷ columns) a b all = record { column = first; is = refl }

second_column : (schema : Schema) (columns : List Column) (a b : Value) → fit_columns schema.choices columns (a ∷ b ∷ []) ≡ true → There columns 1
second_column schema [] a b all = absurd (true≢false (sym all))
second_column schema (first ∷ []) a b all = absurd (true≢false (sym (and_parts (fits_column schema.choices first a) false all).1))
second_column schema (first ∷ second ∷ columns) a b all = record { column = second; is = refl }

module _ (schema : Schema) (agree : LinksAgree schema) (required : HaveRequiredIds schema) (table : ℕ) (row : Row) (model : is_model schema table ≡ true) (right : FitsTable schema table row) where
  own_required : (number : ℕ) → In number (id_columns (table_at schema table)) → IfSome (slice_get (table_at schema table).columns number) (λ (found : Column). found.optional ≡ false)
  own_required number is_in = required (table_at schema table) (in_place schema.tables table (table_at schema table) (some_model (slice_get schema.tables table) model)) number is_in

  renamed_fits : (column : Column) (number place : ℕ) → column_at schema number place ≡ Some column → kinds_at schema number (place ∷ []) ≡ kinds_at schema table (id_columns (table_at schema table)) → (old : Values) (id : Value)
      → fits_column schema.choices column id ≡ true → fits_column schema.choices column (renamed old (id_of (table_at schema table) row) id) ≡ true
  renamed_fits column number place is kinds old id fits = by_test (are_same (id ∷ []) old)
    where
      by_test : (b : Bool) → fits_column schema.choices column (cond b (first_or id (id_of (table_at schema table) row)) id) ≡ true
      by_test false = fits
      by_test true = first_fits schema table row column (column_at schema number place) is right id (id_columns (table_at schema table)) own_required kinds

  side_fits : (column : Column) (number place side : ℕ) → column_at schema number place ≡ Some column → kinds_at schema number (place ∷ []) ≡ kinds_at schema side (id_columns (table_at schema side)) → (old : Values) (id : Value)
      → fits_column schema.choices column id ≡ true → fits_column schema.choices column (renamed_if (side == table) old (id_of (table_at schema table) row) id) ≡ true
  side_fits column number place side is kinds old id fits = by_test (side == table) refl
    where
      by_test : (b : Bool) → side == table ≡ b → fits_column schema.choices column (renamed_if b old (id_of (table_at schema table) row) id) ≡ true
      by_test false elsewhere = fits
      by_test true here = renamed_fits column number place is (subst (λ t. kinds_at schema number (place ∷ []) ≡ kinds_at schema t (id_columns (table_at schema t))) (eqb-true side table here) kinds) old id fits

  pair_fits : (number : ℕ) (link : Link) → link_of number schema.links ≡ Some link → (old : Values) (a b : Value) → fit_columns schema.choices (table_at schema number).columns (a ∷ b ∷ []) ≡ true
      → fit_columns schema.choices (table_at schema number).columns (renamed_if (link.a.0 == table) old (id_of (table_at schema table) row) a ∷ renamed_if (link.b.0 == table) old (id_of (table_at schema table) row) b ∷ []) ≡ true
  pair_fits number link is old a b all =
      let first = first_column schema (table_at schema number).columns a b all in
      let second = second_column schema (table_at schema number).columns a b all in
      let a_fits = side_fits first.column number 0 link.a.0 first.is (agree.first number link is) old a (value_in schema.choices (table_at schema number).columns (a ∷ b ∷ []) 0 first.column all first.is) in
      let b_fits = side_fits second.column number 1 link.b.0 second.is (agree.second number link is) old b (value_in schema.choices (table_at schema number).columns (a ∷ b ∷ []) 1 second.column all second.is) in
      let new_a : Value = renamed_if (link.a.0 == table) old (id_of (table_at schema table) row) a in
      let new_b : Value = renamed_if (link.b.0 == table) old (id_of (table_at schema table) row) b in
      set_fits schema.choices (table_at schema number).columns (slice_set (a ∷ b ∷ []) 0 new_a) 1 new_b
      (set_fits schema.choices (table_at schema number).columns (a ∷ b ∷ []) 0 new_a all (ap (is_some_such (λ found. fits_column schema.choices found new_a)) first.is ∙ a_fits))
      (ap (is_some_such (λ found. fits_column schema.choices found new_b)) second.is ∙ b_fits)

  -- ---- the pairs of a link table

  pub renamed_none : (o : Option Link) (old new : Values) (pairs : List (Value × Value)) → pairs ≡ [] → renamed_pairs o table old new pairs ≡ []
  renamed_none None old new pairs none = none
  renamed_none (Some link) old new pairs none = ap (λ l. in_order (map (λ (pair : Value × Value). (renamed_if (link.a.0 == table) old new pair.0, renamed_if (link.b.0 == table) old new pair.1)) l)) none

  pub renamed_kinds : (number : ℕ) (o : Option Link) → link_of number schema.links ≡ o → (old : Values) (pairs : List (Value × Value)) → all_fit schema number pairs ≡ true → all_fit schema number (renamed_pairs o table old (id_of (table_at schema table) row) pairs) ≡ true
  renamed_kinds number None is old pairs all = all
  renamed_kinds number (Some link) is old pairs all =
      all_in_order fits (map f pairs) (all_mapped fits f pairs (λ pair fits. pair_fits number link is old pair.0 pair.1 fits) all)
    where
      f : Value × Value → Value × Value
      f pair = (renamed_if (link.a.0 == table) old (id_of (table_at schema table) row) pair.0, renamed_if (link.b.0 == table) old (id_of (table_at schema table) row) pair.1)

      fits : Value × Value → Bool
      fits pair = fit_columns schema.choices (table_at schema number).columns (both_values pair)

  pub renamed_order : (o : Option Link) (old new : Values) (pairs : List (Value × Value)) → PairsAscend pairs → PairsAscend (renamed_pairs o table old new pairs)
  renamed_order None old new pairs order = order
  renamed_order (Some link) old new pairs order = in_order_ascends (map (λ (pair : Value × Value). (renamed_if (link.a.0 == table) old new pair.0, renamed_if (link.b.0 == table) old new pair.1)) pairs)

  pub renamed_fit : (old : Values) (tables : Tables) → FitsSchema schema tables
      → FitsSchema schema (record tables { pairs = λ link. renamed_pairs (link_of link schema.links) table old (id_of (table_at schema table) row) (tables.pairs link) })
  renamed_fit old tables fits = record {
    models = fits.models;
    kinds = fits.kinds;
    order = fits.order;
    keys = fits.keys;
    counters = fits.counters;
    links = λ link none. renamed_none (link_of link schema.links) old (id_of (table_at schema table) row) (tables.pairs link) (fits.links link none);
    pair_kinds = λ link. renamed_kinds link (link_of link schema.links) refl old (tables.pairs link) (fits.pair_kinds link);
    pair_order = λ link. renamed_order (link_of link schema.links) old (id_of (table_at schema table) row) (tables.pairs link) (fits.pair_order link);
  }
