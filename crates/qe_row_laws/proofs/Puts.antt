-- A put keeps tables that fit.
use Rattle.std.proofs.Common.{◌≡◌, ℕ, zero, suc, ◌+◌, ℤ, pos, Bool, true, false, cond, not, filter, List, [], ◌∷◌, Option, Some, None, Ok, Err, Result, refl, sym, ap, subst, ◌∙◌, arith, true≢false, Less}
use Rattle.std.specs.Prelude.{◌==◌, slice_get, int_lt}
use Rattle.std.specs.Int.{int_max}
use Rattle.std.specs.List.{list_all, list_any}
use Rattle.std.specs.Ordering.{is_lt, is_gt}
use Rattle.std.proofs.lemmas.Bool.{and_parts, and_from, eqb-true, not-true, not_from_false, false_from_ne_true}
use Rattle.std.proofs.lemmas.Int.{ints}
use Rattle.qe_base.specs.declared.value.Row.{Row}
use Rattle.qe_base.specs.declared.value.Value.{Value}
use Rattle.qe_base.specs.declared.value.Value.TheVariants as value
use Rattle.qe_base.specs.declared.answer.Rule.{Rule}
use Rattle.qe_base.specs.declared.schema.Key.{Key}
use Rattle.qe_base.specs.declared.schema.Table.{Table}
use Rattle.qe_base.specs.Schemas.{Schema}
use Rattle.qe_schema.proofs.Members.{from_filter, passes}
use Rattle.qe_schema.specs.Columns.{Values, has_null, are_same, value_at, at_columns, holds, values_cmp}
use Rattle.qe_schema.specs.Fits.{fit_columns, counting, Ascending, KeyApart, at_number, is_within, Counts, FitsSchema}
use Rattle.qe_schema.specs.Put.{first_broken, broken_key, put_among, raised_to, raised_at, raised, put_unless, put_beside}
use Rattle.qe_schema.specs.Tables.{Tables, table_at, is_model, id_columns, id_of, with_rows, with_last}
use Rattle.qe_row_laws.specs.Puts.{FitsTable, PutsFit, NewRowsFit}
use Rattle.qe_row_laws.proofs.Lists.{all_pass, none_in, filter_all, all_with, all_filtered, Pairwise, filtered, inserted, either_way}
use Rattle.qe_schema.proofs.Equal.{same_values, values_same}
use Rattle.qe_row_laws.proofs.Orders.{values_cmp_total, less_is, not_both, turned}

-- ---- order

abbrev pub Before : Table → Row → Row → Type 0
Before table row later = values_cmp (id_of table row) (id_of table later) ≡ Less

pub from_ascending : (table : Table) (rows : List Row) → Ascending table rows → Pairwise (Before table) rows
from_ascending table [] all = tt
from_ascending table (row ∷ rows) all = (all.0, from_ascending table rows all.1)

pub ascending : (table : Table) (rows : List Row) → Pairwise (Before table) rows → Ascending table rows
ascending table [] all = tt
ascending table (row ∷ rows) all = (all.0, ascending table rows all.1)

pub put_ascends : (table : Table) (row : Row) (others : List Row) → Ascending table others → Ascending table (put_among table row others)
put_ascends table row others order = ascending table (put_among table row others) (inserted (Before table) below above row others (from_ascending table others order) (λ other is_in is. front other is) (λ other is_in is. back other is)
    (λ one other in_one in_other less more. values_cmp_total.trans (id_of table one) (id_of table row) (id_of table other) (front one less) (back other more)))
  where
    below : Row → Bool
    below other = is_lt (values_cmp (id_of table other) (id_of table row))

    above : Row → Bool
    above other = is_gt (values_cmp (id_of table other) (id_of table row))

    front : (other : Row) → is_lt (values_cmp (id_of table other) (id_of table row)) ≡ true → Before table other row
    front other is = less_is (values_cmp (id_of table other) (id_of table row)) is

    back : (other : Row) → is_gt (values_cmp (id_of table other) (id_of table row)) ≡ true → Before table row other
    back other is = turned values_cmp_total (id_of table row) (id_of table other) is

-- ---- keys

abbrev pub Apart : List ℕ → Row → Row → Type 0
Apart columns row later = holds columns (at_columns columns row) later ≡ false

pub from_apart : (columns : List ℕ) (rows : List Row) → KeyApart columns rows → Pairwise (Apart columns) rows
from_apart columns [] all = tt
from_apart columns (row ∷ rows) all = (all.0, from_apart columns rows all.1)

pub key_apart : (columns : List ℕ) (rows : List Row) → Pairwise (Apart columns) rows → KeyApart columns rows
key_apart columns [] all = tt
key_apart columns (row ∷ rows) all = (all.0, key_apart columns rows all.1)

-- two rows that agree on a key, the other way round
holds_back : (columns : List ℕ) (one other : Row) → holds columns (at_columns columns one) other ≡ true → holds columns (at_columns columns other) one ≡ true
holds_back columns one other is =
    let parts = and_parts (not (has_null (at_columns columns one))) (are_same (at_columns columns other) (at_columns columns one)) is in
    let same = same_values (at_columns columns other) (at_columns columns one) parts.1 in
    and_from (not (has_null (at_columns columns other))) (are_same (at_columns columns one) (at_columns columns other)) (ap (λ values. not (has_null values)) same ∙ parts.0) (values_same (at_columns columns one) (at_columns columns other) (sym same))

pub apart_back : (columns : List ℕ) (one other : Row) → Apart columns one other → Apart columns other one
apart_back columns one other apart = false_from_ne_true (holds columns (at_columns columns other) one) (λ is. true≢false (sym (holds_back columns other one is) ∙ apart))

put_apart : (table : Table) (columns : List ℕ) (row : Row) (others : List Row) → list_any (holds columns (at_columns columns row)) others ≡ false → KeyApart columns others → KeyApart columns (put_among table row others)
put_apart table columns row others none keys = key_apart columns (put_among table row others) (inserted (Apart columns) below above row others (from_apart columns others keys)
    (λ other is_in is. apart_back columns row other (none_in (holds columns (at_columns columns row)) others other none is_in)) (λ other is_in is. none_in (holds columns (at_columns columns row)) others other none is_in)
    (either_way (Apart columns) below above (apart_back columns) (λ other less more. not_both (values_cmp (id_of table other) (id_of table row)) less more) others (from_apart columns others keys)))
  where
    below : Row → Bool
    below other = is_lt (values_cmp (id_of table other) (id_of table row))

    above : Row → Bool
    above other = is_gt (values_cmp (id_of table other) (id_of table row))

-- where no key is broken, no other row agrees with this one on a key
none_broken : (keys : List Key) (number : ℕ) (row : Row) (others : List Row) → broken_key keys number row others ≡ None → (place : ℕ) (key : Key) → slice_get keys place ≡ Some key → list_any (holds key.columns (at_columns key.columns row)) others ≡ false
none_broken [] number row others none place key is = absurd cc
none_broken (first ∷ keys) number row others none place key is = by_test (list_any (holds first.columns (at_columns first.columns row)) others) refl none place is (λ later place found. none_broken keys (number + 1) row others later place key found)
  where
    no_number : (number : ℕ) → Some number ≡ None → ⊥
    no_number number is = cc

    by_place : list_any (holds first.columns (at_columns first.columns row)) others ≡ false → broken_key keys (number + 1) row others ≡ None
        → ((place : ℕ) → slice_get keys place ≡ Some key → list_any (holds key.columns (at_columns key.columns row)) others ≡ false)
        → (place : ℕ) → slice_get (first ∷ keys) place ≡ Some key → list_any (holds key.columns (at_columns key.columns row)) others ≡ false
    by_place here later rest zero is = let same : first ≡ key = cc in subst (λ (k : Key). list_any (holds k.columns (at_columns k.columns row)) others ≡ false) same here
    by_place here later rest (suc place) is = rest place is

    by_test : (b : Bool) → list_any (holds first.columns (at_columns first.columns row)) others ≡ b → first_broken b number (broken_key keys (number + 1) row others) ≡ None
        → (place : ℕ) → slice_get (first ∷ keys) place ≡ Some key
        → (broken_key keys (number + 1) row others ≡ None → (place : ℕ) → slice_get keys place ≡ Some key → list_any (holds key.columns (at_columns key.columns row)) others ≡ false)
        → list_any (holds key.columns (at_columns key.columns row)) others ≡ false
    by_test true here is place found rest = absurd (no_number number is)
    by_test false here is place found rest = by_place here is (rest is) place found

-- ---- counters

never_less : (number : ℤ) → int_lt number number ≡ false
never_less number = by_test (int_lt number number) refl
  where
    by_test : (b : Bool) → int_lt number number ≡ b → int_lt number number ≡ false
    by_test true less = absurd (omega (arith, ints))
    by_test false less = less

pub greatest_last : (last number : ℤ) → int_lt (int_max last number) last ≡ false
greatest_last last number = by_test (int_lt number last) refl
  where
    by_test : (b : Bool) → int_lt number last ≡ b → int_lt (cond b last number) last ≡ false
    by_test true is = never_less last
    by_test false is = is

greatest_number : (last number : ℤ) → int_lt (int_max last number) number ≡ false
greatest_number last number = by_test (int_lt number last) refl
  where
    by_test : (b : Bool) → int_lt number last ≡ b → int_lt (cond b last number) number ≡ false
    by_test true is = above (int_lt last number) refl
      where
        above : (c : Bool) → int_lt last number ≡ c → int_lt last number ≡ false
        above true less = absurd (omega (arith, ints))
        above false less = less
    by_test false is = never_less number

-- what is at most one number is at most a greater one
pub at_most : (first second third : ℤ) → int_lt second first ≡ false → int_lt third second ≡ false → int_lt third first ≡ false
at_most first second third one two = by_test (int_lt third first) refl
  where
    by_test : (b : Bool) → int_lt third first ≡ b → int_lt third first ≡ false
    by_test true less = absurd (omega (arith, ints))
    by_test false less = less

still_within : (last higher : ℤ) → int_lt higher last ≡ false → (v : Value) → is_within last v ≡ true → is_within higher v ≡ true
still_within last higher more value.Null is = refl
still_within last higher more (value.Text text) is = refl
still_within last higher more (value.Bool truth) is = refl
still_within last higher more (value.Int number) is = not_from_false (int_lt higher number) (at_most number last higher (not-true (int_lt last number) is) more)
still_within last higher more (value.Moment moment) is = refl
still_within last higher more (value.Blob bytes) is = refl
still_within last higher more (value.Member member) is = refl

raised_to_higher : (v : Value) (last : ℤ) → int_lt (raised_to v last) last ≡ false
raised_to_higher value.Null last = never_less last
raised_to_higher (value.Text text) last = never_less last
raised_to_higher (value.Bool truth) last = never_less last
raised_to_higher (value.Int number) last = greatest_last last number
raised_to_higher (value.Moment moment) last = never_less last
raised_to_higher (value.Blob bytes) last = never_less last
raised_to_higher (value.Member member) last = never_less last

raised_within : (v : Value) (last : ℤ) → is_within (raised_to v last) v ≡ true
raised_within value.Null last = refl
raised_within (value.Text text) last = refl
raised_within (value.Bool truth) last = refl
raised_within (value.Int number) last = not_from_false (int_lt (int_max last number) number) (greatest_number last number)
raised_within (value.Moment moment) last = refl
raised_within (value.Blob bytes) last = refl
raised_within (value.Member member) last = refl

raised_higher : (counted : Option ℕ) (row : Row) (last : ℤ) → int_lt (raised_at counted row last) last ≡ false
raised_higher None row last = never_less last
raised_higher (Some column) row last = raised_to_higher (value_at row column) last

row_within : (counted : Option ℕ) (row : Row) (last : ℤ) → list_all (is_within (raised_at counted row last)) (at_number counted row) ≡ true
row_within None row last = refl
row_within (Some column) row last = and_from (is_within (raised_to (value_at row column) last) (value_at row column)) true (raised_within (value_at row column) last) refl

pub all_within : (last higher : ℤ) → int_lt higher last ≡ false → (values : Values) → list_all (is_within last) values ≡ true → list_all (is_within higher) values ≡ true
all_within last higher more values all = all_pass (is_within higher) values (λ v is_in. still_within last higher more v (passes (is_within last) values v all is_in))

not_counted : (counted : Option ℕ) (row : Row) (last : ℤ) → (counted ≡ None → last ≡ pos 0) → counted ≡ None → raised_at counted row last ≡ pos 0
not_counted counted row last kept is = ap (λ o. raised_at o row last) is ∙ kept is

put_counts : (table : Table) (row : Row) (last : ℤ) (rows : List Row) (test : Row → Bool) → Counts table last rows → Counts table (raised table row last) (put_among table row (filter test rows))
put_counts table row last rows test (within, positive, none) = (
  all_with (λ (one : Row). list_all (is_within (raised table row last)) (at_number counted one)) (λ other. is_lt (values_cmp (id_of table other) (id_of table row))) (λ other. is_gt (values_cmp (id_of table other) (id_of table row))) row (filter test rows)
      (row_within counted row last)
      (all_pass (λ (one : Row). list_all (is_within (raised table row last)) (at_number counted one)) (filter test rows)
      (λ one is_in. all_within last (raised table row last) higher (at_number counted one) (passes (λ (one : Row). list_all (is_within last) (at_number counted one)) rows one within (from_filter test rows one is_in).0))),
  at_most (pos 0) last (raised table row last) positive higher,
  not_counted counted row last none,
)
  where
    counted : Option ℕ
    counted = counting table.columns (id_columns table)

    higher : int_lt (raised_at (counting table.columns (id_columns table)) row last) last ≡ false
    higher = raised_higher (counting table.columns (id_columns table)) row last

-- ---- the whole

module _ (schema : Schema) (table : ℕ) (row : Row) (test : Row → Bool) (tables : Tables) (fits : FitsSchema schema tables) (model : is_model schema table ≡ true) (right : FitsTable schema table row)
    (unbroken : broken_key (table_at schema table).keys 0 row (filter test (tables.rows table)) ≡ None) where
  others_fit : list_all (λ (one : Row). fit_columns schema.choices (table_at schema table).columns one.values) (filter test (tables.rows table)) ≡ true
  others_fit = all_filtered (λ (one : Row). fit_columns schema.choices (table_at schema table).columns one.values) test (tables.rows table) (fits.kinds table)

  models : (t : ℕ) (b : Bool) → t == table ≡ b → is_model schema t ≡ false → cond b (put_among (table_at schema table) row (filter test (tables.rows table))) (tables.rows t) ≡ []
  models t true same not_model = absurd (true≢false (sym (ap (is_model schema) (eqb-true t table same) ∙ model) ∙ not_model))
  models t false same not_model = fits.models t not_model

  kinds : (t : ℕ) (b : Bool) → t == table ≡ b → list_all (λ (one : Row). fit_columns schema.choices (table_at schema t).columns one.values) (cond b (put_among (table_at schema table) row (filter test (tables.rows table))) (tables.rows t)) ≡ true
  kinds t true same =
      subst (λ n. list_all (λ (one : Row). fit_columns schema.choices (table_at schema n).columns one.values) (put_among (table_at schema table) row (filter test (tables.rows table))) ≡ true) (sym (eqb-true t table same))
      (all_with (λ (one : Row). fit_columns schema.choices (table_at schema table).columns one.values) (λ other. is_lt (values_cmp (id_of (table_at schema table) other) (id_of (table_at schema table) row))) (λ other. is_gt (values_cmp (id_of (table_at schema table) other) (id_of (table_at schema table) row)))
      row (filter test (tables.rows table)) right others_fit)
  kinds t false same = fits.kinds t

  order : (t : ℕ) (b : Bool) → t == table ≡ b → Ascending (table_at schema t) (cond b (put_among (table_at schema table) row (filter test (tables.rows table))) (tables.rows t))
  order t true same = subst (λ n. Ascending (table_at schema n) (put_among (table_at schema table) row (filter test (tables.rows table)))) (sym (eqb-true t table same))
      (put_ascends (table_at schema table) row (filter test (tables.rows table))
      (ascending (table_at schema table) (filter test (tables.rows table)) (filtered (Before (table_at schema table)) test (tables.rows table) (from_ascending (table_at schema table) (tables.rows table) (fits.order table)))))
  order t false same = fits.order t

  keys : (t : ℕ) (b : Bool) → t == table ≡ b → (number : ℕ) (key : Key) → slice_get (table_at schema t).keys number ≡ Some key → KeyApart key.columns (cond b (put_among (table_at schema table) row (filter test (tables.rows table))) (tables.rows t))
  keys t true same number key is =
      let here : slice_get (table_at schema table).keys number ≡ Some key = subst (λ n. slice_get (table_at schema n).keys number ≡ Some key) (eqb-true t table same) is in
      put_apart (table_at schema table) key.columns row (filter test (tables.rows table)) (none_broken (table_at schema table).keys 0 row (filter test (tables.rows table)) unbroken number key here)
      (key_apart key.columns (filter test (tables.rows table)) (filtered (Apart key.columns) test (tables.rows table) (from_apart key.columns (tables.rows table) (fits.keys table number key here))))
  keys t false same number key is = fits.keys t number key is

  counters : (t : ℕ) (b : Bool) → t == table ≡ b → Counts (table_at schema t) (cond b (raised (table_at schema table) row (tables.last table)) (tables.last t)) (cond b (put_among (table_at schema table) row (filter test (tables.rows table))) (tables.rows t))
  counters t true same = subst (λ n. Counts (table_at schema n) (raised (table_at schema table) row (tables.last table)) (put_among (table_at schema table) row (filter test (tables.rows table)))) (sym (eqb-true t table same))
      (put_counts (table_at schema table) row (tables.last table) (tables.rows table) test (fits.counters table))
  counters t false same = fits.counters t

  put_fits : FitsSchema schema (with_last table (raised (table_at schema table) row (tables.last table)) (with_rows table (put_among (table_at schema table) row (filter test (tables.rows table))) tables))
  put_fits = record {
    models = λ t. models t (t == table) refl;
    kinds = λ t. kinds t (t == table) refl;
    order = λ t. order t (t == table) refl;
    keys = λ t number key. keys t (t == table) refl number key;
    counters = λ t. counters t (t == table) refl;
    links = fits.links;
    pair_kinds = fits.pair_kinds;
    pair_order = fits.pair_order;
  }

abbrev tables_in : Tables → Result Tables Rule → Tables
tables_in otherwise (Ok tables) = tables
tables_in otherwise (Err broken) = otherwise

pub puts_fit : (schema : Schema) → PutsFit schema
puts_fit schema table row test tables after fits model right is = by_key (broken_key (table_at schema table).keys 0 row (filter test (tables.rows table))) refl is
  where
    by_key : (o : Option ℕ) → broken_key (table_at schema table).keys 0 row (filter test (tables.rows table)) ≡ o → put_unless schema table row (filter test (tables.rows table)) tables o ≡ Ok after → FitsSchema schema after
    by_key (Some number) broken is = absurd cc
    by_key None unbroken is = subst (FitsSchema schema) (ap (tables_in after) is) (put_fits schema table row test tables fits model right unbroken)

pub new_rows_fit : (schema : Schema) → NewRowsFit schema
new_rows_fit schema table row tables after fits model right is = puts_fit schema table row (λ one. true) tables after fits model right (ap (λ rows. put_beside schema table row rows tables) (filter_all (tables.rows table)) ∙ is)
