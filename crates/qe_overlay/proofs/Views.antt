-- The calls of a view, by what stands.
use Rattle.std.proofs.Common.{◌≡◌, inl, inr, ℕ, zero, suc, ℤ, pos, List, [], ◌∷◌, ◌++◌, map, filter, take, slice_get, Option, Some, None, Bool, true, false, cond, not, ◌&&◌, refl, sym, ap, subst, ◌∙◌, true≢false, length, min, ◌+◌, ◌<◌, arith}
use Rattle.std.specs.Prelude.{unwrap_or, IfSome, IsSomeAnd, IsErrOf, option_map, Ok, int_lt, nat_lt}
use Rattle.std.specs.Int.{int_max}
use Rattle.std.specs.List.{AllByRecursion, list_all}
use Rattle.std.proofs.lemmas.Bool.{and_parts, lt-ltb}
use Rattle.std.proofs.lemmas.Int.{ints, clamps}
use Rattle.std.proofs.lemmas.Option.{slice_get_within}
use Rattle.qe_base.specs.declared.schema.Column.{Column}
use Rattle.qe_base.specs.declared.schema.Choice.{Choice}
use Rattle.qe_base.specs.declared.query.ColumnTest.{ColumnTest}
use Rattle.qe_base.specs.declared.schema.Table.{Table}
use Rattle.qe_base.specs.declared.value.Row.{Row}
use Rattle.qe_base.specs.declared.value.Value.{Value}
use Rattle.qe_base.specs.Schemas.{Schema}
use Rattle.qe_schema.specs.Sound.{IsSound}
use Rattle.qe_schema.specs.Columns.{is_null, at_columns}
use Rattle.qe_schema.specs.Fits.{FitsSchema, fit_columns, fits_column}
use Rattle.qe_schema.specs.Tables.{Tables, no_rows, table_at, is_model, is_model_table, is_link, is_link_table, id_columns}
use Rattle.qe_schema.specs.Tests.{passes}
use Rattle.qe_base.specs.declared.value.TableId.{TableId}
use Rattle.qe_view.specs.After.{after as after_change, rows_in, rows_at, rows_passing, is_wanted, is_from, turned, page_among, page_in, pair_row}
use Rattle.qe_view.specs.Right.{has_table, can_scan, can_page, is_row_of, is_id_of, is_pair_of, is_last_of, are_values_of}
use Rattle.qe_view.specs.declared.changes.Change.TheVariants as change
use Rattle.qe_view.specs.Attached.{Attached, Connected, FitLayout, shapes_of, OfShapes, HasShapes}
use Rattle.qe_view.specs.Layouts.{Layout, layout_of}
use Rattle.qe_view.specs.Versions.{Viewed, Changes, changed, GoesBack}
use Rattle.qe_view.specs.Answers.{HasCauses}
use Rattle.qe_view.specs.declared.changes.ConnFault.{ConnFault}
use Rattle.qe_view.specs.declared.changes.ConnFault.TheVariants.{Failed}
use Rattle.qe_base.specs.Causes.{Faults, HasCause}
use Rattle.qe_overlay.specs.Fits.{FitsAs, FitsEntry, LayersFit, FitOver, HasLayout, viewed, Stands, LiesOver, PageLiesOver}
use Rattle.qe_overlay.specs.Held.{Held, changed_to, entered, raised, raised_over, with_raised, with_layer, with_entry, HeldGoesBack}
use Rattle.qe_overlay.specs.Laid.{id_row, laid_over, page_over}
use Rattle.qe_overlay.specs.Layers.{Entry, Layers, rows_and, present, over_rows, over_pairs, over_last, pair_of, seen}
use Rattle.qe_overlay.proofs.Ids.{have_ids}
use Rattle.qe_overlay.proofs.Paging.{all-push, page_seen, taken_all, all_page}
use Rattle.qe_overlay.proofs.Pairs.{as_rows, over_as_rows, pairs_sorted, pairs_own}
use Rattle.qe_overlay.proofs.Rows.{Sorted, OwnIds, sorted_from, laid_seen, all_laid}
use Rattle.qe_overlay.proofs.Seen.{model_not_link, entries_own, entries_pairs, put_fits, remove_fits, link_fits, unlink_fits, last_changed, still_fit, put_is, remove_is, link_is, unlink_is}

-- tables that fit the layout of a schema fit it
pub shapes_fit : (schema : Schema) (tables : Tables) → FitsSchema (shapes_of (layout_of schema)) tables → FitsSchema schema tables
shapes_fit schema tables fit = record {
  models = fit.models;
  kinds = fit.kinds;
  order = fit.order;
  keys = fit.keys;
  counters = fit.counters;
  links = fit.links;
  pair_kinds = fit.pair_kinds;
  pair_order = fit.pair_order;
}

-- what holds of the shapes of what is attached, holds of those of its layout
module _ (connected : Connected) (layout : Layout) (P : Schema → Type 0) where
  of_attached : (attached : Option Attached) → option_map (λ (a : Attached). a.layout) attached ≡ Some layout → IfSome attached (λ a. P (shapes_of a.layout)) → P (shapes_of layout)
  of_attached None is holds = subst (λ (o : Option Layout). IfSome o (λ l. P (shapes_of l))) is holds
  of_attached (Some a) is holds = subst (λ (o : Option Layout). IfSome o (λ l. P (shapes_of l))) is holds

  has_attached : (attached : Option Attached) → option_map (λ (a : Attached). a.layout) attached ≡ Some layout → P (shapes_of layout) → IsSomeAnd attached (λ a. P (shapes_of a.layout))
  has_attached None is holds = subst (λ (o : Option Layout). IsSomeAnd o (λ l. P (shapes_of l))) (sym is) holds
  has_attached (Some a) is holds = subst (λ (o : Option Layout). IsSomeAnd o (λ l. P (shapes_of l))) (sym is) holds

  pub of_layout : HasLayout connected layout → OfShapes connected P → P (shapes_of layout)
  of_layout is holds = of_attached connected.attached is holds

  pub has_layout : HasLayout connected layout → P (shapes_of layout) → HasShapes connected P
  has_layout is holds = has_attached connected.attached is holds

told_fit : (schema : Schema) (told : Option Tables) → IfSome told (FitsSchema (shapes_of (layout_of schema))) → IfSome told (FitsSchema schema)
told_fit schema None fit = tt
told_fit schema (Some tables) fit = shapes_fit schema tables fit

pub below_fits : (schema : Schema) (connected : Connected) → HasLayout connected (layout_of schema) → FitLayout connected → IfSome connected.told (FitsSchema schema)
below_fits schema connected is fit =
    told_fit schema connected.told (of_layout connected (layout_of schema) (λ shapes. IfSome connected.told (FitsSchema shapes)) is fit)

-- what stands, by the told tables alone
pub record Standing (schema : Schema) (told : Option Tables) (held : Held) : Type 0 where
  pub sound : IsSound schema
  pub below : IfSome told (FitsSchema schema)
  pub now : FitOver schema told held.layers

pub standing : (schema : Schema) (held : Held) (connected : Connected) → Stands schema held connected → Standing schema connected.told held
standing schema held connected stands = record { sound = stands.sound; below = below_fits schema connected stands.attached stands.below; now = stands.now }

map-push : {A B : Type 0} (f : A → B) (xs : List A) (x : A) → map f (xs ++ x ∷ []) ≡ map f xs ++ f x ∷ []
map-push f [] x = refl
map-push f (y ∷ xs) x = ap (λ l. f y ∷ l) (map-push f xs x)

-- ---- a change

-- the change leads to tables that fit, where they are told
abbrev LeadsFit : Schema → (Tables → Tables) → Option Tables → Type 0
LeadsFit schema f told = IfSome told (λ tables. FitsSchema schema (f tables))

module _ (schema : Schema) (held after : Held) (layers : Layers) (f : Tables → Tables) (is : after ≡ changed_to layers held) (fit : LayersFit schema layers)
    (leads : (tables : Tables) → FitsSchema schema tables → seen schema layers tables ≡ f (seen schema held.layers tables)) where
  now_is : (told : Option Tables) → Standing schema told held → option_map (seen schema layers) told ≡ option_map f (option_map (seen schema held.layers) told)
  now_is None stands = refl
  now_is (Some tables) stands = ap (λ (t : Tables). Some t) (leads tables stands.below)

  pub viewed_changed : (connected : Connected) → Stands schema held connected → viewed schema after connected ≡ changed f (viewed schema held connected)
  viewed_changed connected stands =
      ap (λ (h : Held). viewed schema h connected) is
      ∙ (λ i. let v : Viewed = record {
        schema = schema;
        now = now_is connected.told (standing schema held connected stands) i;
        past = map-push (λ layers. option_map (seen schema layers) connected.told) held.past held.layers i;
        below = connected;
      } in v)

  fit_over : (told : Option Tables) → Standing schema told held → LeadsFit schema f (option_map (seen schema held.layers) told) → FitOver schema told layers
  fit_over None stands fits = (fit, tt)
  fit_over (Some tables) stands fits = (fit, subst (FitsSchema schema) (sym (leads tables stands.below)) fits)

  pub change_stands : (connected : Connected) → Stands schema held connected → LeadsFit schema f (option_map (seen schema held.layers) connected.told) → Stands schema after connected
  change_stands connected stands fits = subst (λ (h : Held). Stands schema h connected) (sym is) (record {
    sound = stands.sound;
    attached = stands.attached;
    below = stands.below;
    now = fit_over connected.told (standing schema held connected stands) fits;
    past = all-push (FitOver schema connected.told) held.past held.layers stands.past stands.now;
  })

-- ---- going back

map-get : {A B : Type 0} (f : A → B) (xs : List A) (x : A) (n : ℕ) (y : A) → slice_get (xs ++ x ∷ []) n ≡ Some y → slice_get (map f xs ++ f x ∷ []) n ≡ Some (f y)
map-get f [] x zero y is = ap (option_map f) is
map-get f [] x (suc n) y is = absurd (let h = is in cc)
map-get f (z ∷ xs) x zero y is = ap (option_map f) is
map-get f (z ∷ xs) x (suc n) y is = map-get f xs x n y is

map-take : {A B : Type 0} (f : A → B) (n : ℕ) (xs : List A) → map f (take n xs) ≡ take n (map f xs)
map-take f zero xs = refl
map-take f (suc n) [] = refl
map-take f (suc n) (x ∷ xs) = ap (λ l. f x ∷ l) (map-take f n xs)

pub viewed_back : (schema : Schema) (connected : Connected) (mark : ℕ) (before after : Held) → HeldGoesBack mark before after → GoesBack mark (viewed schema before connected) (viewed schema after connected)
viewed_back schema connected mark before after back = record {
  now = map-get (λ layers. option_map (seen schema layers) connected.told) before.past before.layers mark after.layers back.layers;
  past = ap (map (λ layers. option_map (seen schema layers) connected.told)) back.past ∙ map-take (λ layers. option_map (seen schema layers) connected.told) mark before.past;
  others = refl;
}

all-get : {A : Type 0} (P : A → Type 0) (xs : List A) (n : ℕ) (y : A) → AllByRecursion P xs → slice_get xs n ≡ Some y → P y
all-get P [] n y all is = absurd (let h = is in cc)
all-get P (x ∷ xs) zero y all is = subst P (ap (λ o. unwrap_or o x) is) all.0
all-get P (x ∷ xs) (suc n) y all is = all-get P xs n y all.1 is

all-take : {A : Type 0} (P : A → Type 0) (n : ℕ) (xs : List A) → AllByRecursion P xs → AllByRecursion P (take n xs)
all-take P zero xs all = tt
all-take P (suc n) [] all = tt
all-take P (suc n) (x ∷ xs) all = (all.0, all-take P n xs all.1)

pub back_stands : (schema : Schema) (connected : Connected) (mark : ℕ) (before after : Held) → HeldGoesBack mark before after → Stands schema before connected → Stands schema after connected
back_stands schema connected mark before after back stands = record {
  sound = stands.sound;
  attached = stands.attached;
  below = stands.below;
  now = all-get (FitOver schema connected.told) (before.past ++ before.layers ∷ []) mark after.layers (all-push (FitOver schema connected.told) before.past before.layers stands.past stands.now) back.layers;
  past = subst (AllByRecursion (FitOver schema connected.told)) (sym back.past) (all-take (FitOver schema connected.told) mark before.past stands.past);
}

-- ---- reading

filter_true : (rows : List Row) → filter (λ row. true) rows ≡ rows
filter_true [] = refl
filter_true (row ∷ rows) = ap (λ l. row ∷ l) (filter_true rows)

append_none : (rows : List Row) → rows ++ [] ≡ rows
append_none [] = refl
append_none (row ∷ rows) = ap (λ l. row ∷ l) (append_none rows)

-- what is read of a table, over what is read of it below
record ReadsOver (schema : Schema) (layers : Layers) (tables : Tables) (table : ℕ) : Type 0 where
  own : OwnIds (table_at schema table) (layers table).entries
  sorted : Sorted (table_at schema table) (rows_in tables table)
  over : rows_in (seen schema layers tables) table ≡ over_rows (table_at schema table) (layers table).entries (rows_in tables table)

link_is_none : (found : Option Table) → is_link_table found ≡ true → is_model_table found ≡ false
link_is_none None is = refl
link_is_none (Some table) is = ap not is

reads_over : (schema : Schema) (layers : Layers) (tables : Tables) (table : ℕ) → IsSound schema → LayersFit schema layers → FitsSchema schema tables → ReadsOver schema layers tables table
reads_over schema layers tables table sound fit below = by_kind (is_link schema table) refl
  where
    by_kind : (b : Bool) → is_link schema table ≡ b → ReadsOver schema layers tables table
    by_kind true link =
        let shape = sound.two_columns table link in
        let none : tables.rows table ≡ [] = below.models table (link_is_none (slice_get schema.tables table) link) in
        let pairs = entries_pairs schema layers fit table link in
        let base : rows_in tables table ≡ as_rows (tables.pairs table) = ap (λ l. l ++ as_rows (tables.pairs table)) none in
        record {
          own = pairs_own (table_at schema table) shape.id (layers table).entries pairs;
          sorted = subst (Sorted (table_at schema table)) (sym base) (pairs_sorted (table_at schema table) shape.id (tables.pairs table) (below.pair_order table));
          over = ap (λ b. cond b (tables.rows table) (over_rows (table_at schema table) (layers table).entries (tables.rows table)) ++ as_rows (cond b (over_pairs (layers table).entries (tables.pairs table)) (tables.pairs table))) link
              ∙ ap (λ l. l ++ as_rows (over_pairs (layers table).entries (tables.pairs table))) none
              ∙ over_as_rows (table_at schema table) shape.id (layers table).entries (tables.pairs table) pairs
              ∙ ap (over_rows (table_at schema table) (layers table).entries) (sym base);
        }
    by_kind false model =
        let none : tables.pairs table ≡ [] = below.links table model in
        let base : rows_in tables table ≡ tables.rows table = ap (λ l. tables.rows table ++ as_rows l) none ∙ append_none (tables.rows table) in
        record {
          own = entries_own schema layers fit table model;
          sorted = subst (Sorted (table_at schema table)) (sym base) (sorted_from (table_at schema table) (tables.rows table) (below.order table));
          over = ap (λ b. cond b (tables.rows table) (over_rows (table_at schema table) (layers table).entries (tables.rows table)) ++ as_rows (cond b (over_pairs (layers table).entries (tables.pairs table)) (tables.pairs table))) model
              ∙ ap (λ l. over_rows (table_at schema table) (layers table).entries (tables.rows table) ++ as_rows l) none
              ∙ append_none (over_rows (table_at schema table) (layers table).entries (tables.rows table))
              ∙ ap (over_rows (table_at schema table) (layers table).entries) (sym base);
        }

read_told : (schema : Schema) (layers : Layers) (tables : Tables) (table : ℕ) (chosen : Row → Bool) (found rows : List Row) → IsSound schema → LayersFit schema layers → FitsSchema schema tables
    → LiesOver (table_at schema table) (layers table).entries chosen found rows → found ≡ filter chosen (rows_in tables table) → rows ≡ filter chosen (rows_in (seen schema layers tables) table)
read_told schema layers tables table chosen found rows sound fit below (inl (none, same)) is =
    let reads = reads_over schema layers tables table sound fit below in
    same ∙ is ∙ ap (filter chosen) (sym (reads.over ∙ ap (λ es. over_rows (table_at schema table) es (rows_in tables table)) none ∙ filter_true (rows_in tables table)))
read_told schema layers tables table chosen found rows sound fit below (inr laid) is =
    let reads = reads_over schema layers tables table sound fit below in
    laid ∙ ap (laid_over (table_at schema table) (layers table).entries chosen) is
    ∙ laid_seen (table_at schema table) (layers table).entries chosen (rows_in tables table) (fit.order table) reads.own reads.sorted
    ∙ ap (filter chosen) (sym reads.over)

pub load_gives : (schema : Schema) (told : Option Tables) (held : Held) (table : ℕ) (columns : List ℕ) (keys found rows : List Row) → Standing schema told held
    → LiesOver (table_at schema table) (held.layers table).entries (is_wanted columns keys) found rows → IfSome told (λ tables. found ≡ rows_at columns keys table tables)
    → IfSome (option_map (seen schema held.layers) told) (λ tables. rows ≡ rows_at columns keys table tables)
load_gives schema None held table columns keys found rows stands lies is = tt
load_gives schema (Some tables) held table columns keys found rows stands lies is =
    read_told schema held.layers tables table (is_wanted columns keys) found rows stands.sound stands.now.0 stands.below lies is

pub scan_gives : (schema : Schema) (told : Option Tables) (held : Held) (table : ℕ) (tests : List ColumnTest) (found rows : List Row) → Standing schema told held
    → LiesOver (table_at schema table) (held.layers table).entries (passes tests) found rows → IfSome told (λ tables. found ≡ rows_passing tests table tables)
    → IfSome (option_map (seen schema held.layers) told) (λ tables. rows ≡ rows_passing tests table tables)
scan_gives schema None held table tests found rows stands lies is = tt
scan_gives schema (Some tables) held table tests found rows stands lies is =
    read_told schema held.layers tables table (passes tests) found rows stands.sound stands.now.0 stands.below lies is

none_more : (count : ℕ) (entries : List Entry) → entries ≡ [] → count + length entries ≡ count
none_more count entries none = let no_length : length entries ≡ 0 = ap length none in omega arith

page_told : (schema : Schema) (layers : Layers) (tables : Tables) (table : ℕ) (from : Option Row) (backward : Bool) (count : ℕ) (found rows : List Row) → is_link schema table ≡ false → LayersFit schema layers → FitsSchema schema tables
    → PageLiesOver (table_at schema table) (layers table).entries from backward count found rows
    → found ≡ page_in schema from backward (count + length (layers table).entries) table tables → rows ≡ page_in schema from backward count table (seen schema layers tables)
page_told schema layers tables table from backward count found rows model fit below lies is = by_lying lies ∙ sym shown
  where
    shown : page_in schema from backward count table (seen schema layers tables) ≡ page_among (table_at schema table) from backward count (over_rows (table_at schema table) (layers table).entries (tables.rows table))
    shown = ap (λ b. page_among (table_at schema table) from backward count (cond b (tables.rows table) (over_rows (table_at schema table) (layers table).entries (tables.rows table)))) model

    by_lying : PageLiesOver (table_at schema table) (layers table).entries from backward count found rows → rows ≡ page_among (table_at schema table) from backward count (over_rows (table_at schema table) (layers table).entries (tables.rows table))
    by_lying (inl (none, same)) =
        same ∙ is
        ∙ ap (λ n. page_among (table_at schema table) from backward n (tables.rows table)) (none_more count (layers table).entries none)
        ∙ ap (page_among (table_at schema table) from backward count) (sym (filter_true (tables.rows table)))
        ∙ ap (λ es. page_among (table_at schema table) from backward count (over_rows (table_at schema table) es (tables.rows table))) (sym none)
    by_lying (inr laid) =
        laid ∙ ap (page_over (table_at schema table) (layers table).entries from backward count) is
        ∙ page_seen (table_at schema table) (layers table).entries from backward count (tables.rows table) (fit.order table) (entries_own schema layers fit table model) (sorted_from (table_at schema table) (tables.rows table) (below.order table))

pub page_gives : (schema : Schema) (told : Option Tables) (held : Held) (table : ℕ) (from : Option Row) (backward : Bool) (count most limit : ℕ) (found rows : List Row) → Standing schema told held → can_page schema table from ≡ true
    → most ≡ min (count + length (held.layers table).entries) limit → length found < limit
    → PageLiesOver (table_at schema table) (held.layers table).entries from backward count found rows → IfSome told (λ tables. found ≡ page_in schema from backward most table tables)
    → IfSome (option_map (seen schema held.layers) told) (λ tables. rows ≡ page_in schema from backward count table tables)
page_gives schema None held table from backward count most limit found rows stands can most_is few lies is = tt
page_gives schema (Some tables) held table from backward count most limit found rows stands can most_is few lies is =
    let model = model_not_link schema table (and_parts (is_model schema table) _ can).0 in
    page_told schema held.layers tables table from backward count found rows model stands.now.0 stands.below lies
    (taken_all (count + length (held.layers table).entries) most limit found (turned backward (filter (is_from (table_at schema table) from backward) (tables.rows table))) most_is few is)

-- ---- rows that fit

both : (a b : Bool) → a ≡ true → b ≡ true → a && b ≡ true
both a b x y = rw (x, y) refl

fits_part : (null fits : Bool) → not null && fits ≡ true → fits ≡ true
fits_part null fits is = (and_parts (not null) fits is).1

pair_fits : (choices : List Choice) (columns : List Column) (first second : Column) (a b : Value) → columns ≡ first ∷ second ∷ [] → are_values_of choices columns (0 ∷ 1 ∷ []) (a ∷ b ∷ []) ≡ true → fit_columns choices columns (a ∷ b ∷ []) ≡ true
pair_fits choices columns first second a b is values =
    let here = subst (λ (c : List Column). are_values_of choices c (0 ∷ 1 ∷ []) (a ∷ b ∷ []) ≡ true) is values in
    let outer = and_parts (not (is_null a) && fits_column choices first a) ((not (is_null b) && fits_column choices second b) && true) here in
    let inner = and_parts (not (is_null b) && fits_column choices second b) true outer.1 in
    subst (λ (c : List Column). fit_columns choices c (a ∷ b ∷ []) ≡ true) (sym is)
    (both (fits_column choices first a) (fits_column choices second b && true) (fits_part (is_null a) (fits_column choices first a) outer.0) (both (fits_column choices second b) true (fits_part (is_null b) (fits_column choices second b) inner.0) refl))

abbrev RowFits : Schema → ℕ → Row → Bool
RowFits schema table row = fit_columns schema.choices (table_at schema table).columns row.values

present_fit : (schema : Schema) (table : ℕ) (entries : List Entry) → IsSound schema → (b : Bool) → is_link schema table ≡ b → AllByRecursion (FitsEntry schema table) entries → list_all (RowFits schema table) (present entries) ≡ true
present_fit schema table [] sound b kind fit = refl
present_fit schema table (e ∷ entries) sound b kind fit = by_now b kind e.1 (subst (λ b. FitsAs b schema table e) kind fit.0) (present_fit schema table entries sound b kind fit.1)
  where
    by_now : (b : Bool) → is_link schema table ≡ b → (now : Option Row) → FitsAs b schema table (e.0, now) → list_all (RowFits schema table) (present entries) ≡ true → list_all (RowFits schema table) (rows_and (present entries) now) ≡ true
    by_now b kind None fits later = later
    by_now false model (Some row) fits later = both (RowFits schema table row) (list_all (RowFits schema table) (present entries)) (and_parts (is_model schema table) (RowFits schema table row) fits.1.0).1 later
    by_now true link (Some row) fits later =
        let shape = sound.two_columns table link in
        both (RowFits schema table row) (list_all (RowFits schema table) (present entries))
        (subst (λ (r : Row). RowFits schema table r ≡ true) (fits.0.1 ∙ sym fits.1)
        (pair_fits schema.choices (table_at schema table).columns shape.first shape.second (pair_of e.0).0 (pair_of e.0).1 shape.columns (and_parts (is_link schema table) _ fits.0.0).1))
        later

pub read_fits : (schema : Schema) (told : Option Tables) (held : Held) (table : ℕ) (chosen : Row → Bool) (found rows : List Row) → Standing schema told held
    → LiesOver (table_at schema table) (held.layers table).entries chosen found rows → list_all (RowFits schema table) found ≡ true → list_all (RowFits schema table) rows ≡ true
read_fits schema told held table chosen found rows stands (inl (none, same)) fit = ap (list_all (RowFits schema table)) same ∙ fit
read_fits schema told held table chosen found rows stands (inr laid) fit =
    ap (list_all (RowFits schema table)) laid
    ∙ all_laid (RowFits schema table) (table_at schema table) (held.layers table).entries chosen found fit (present_fit schema table (held.layers table).entries stands.sound (is_link schema table) refl (stands.now.0.entries table))

pub page_fits : (schema : Schema) (told : Option Tables) (held : Held) (table : ℕ) (from : Option Row) (backward : Bool) (count : ℕ) (found rows : List Row) → Standing schema told held
    → PageLiesOver (table_at schema table) (held.layers table).entries from backward count found rows → list_all (RowFits schema table) found ≡ true → list_all (RowFits schema table) rows ≡ true
page_fits schema told held table from backward count found rows stands (inl (none, same)) fit = ap (list_all (RowFits schema table)) same ∙ fit
page_fits schema told held table from backward count found rows stands (inr laid) fit =
    ap (list_all (RowFits schema table)) laid
    ∙ all_page (RowFits schema table) (table_at schema table) (held.layers table).entries from backward count found fit (present_fit schema table (held.layers table).entries stands.sound (is_link schema table) refl (stands.now.0.entries table))

-- ---- counters

int_max_whole : (a b : ℤ) → int_lt a (pos 0) ≡ false → int_lt b (pos 0) ≡ false → int_lt (int_max a b) (pos 0) ≡ false
int_max_whole a b x y = elim (int_lt b a) as (λ c. int_lt (cond c a b) (pos 0) ≡ false) [ true ↦ x | false ↦ y ]

not_true : (b : Bool) → not b ≡ true → b ≡ false
not_true true is = sym is
not_true false is = refl

last_whole : (schema : Schema) (table : ℕ) (last : Option ℤ) (below : ℤ) → IfSome last (λ last. is_last_of schema table last ≡ true) → int_lt below (pos 0) ≡ false → int_lt (over_last last below) (pos 0) ≡ false
last_whole schema table None below right whole = whole
last_whole schema table (Some raised) below right whole = int_max_whole raised below (not_true (int_lt raised (pos 0)) (and_parts (is_model schema table) (not (int_lt raised (pos 0))) right).1) whole

pub last_gives : (schema : Schema) (told : Option Tables) (held : Held) (table : ℕ) (below last : ℤ) → Standing schema told held → last ≡ over_last (held.layers table).last below
    → (int_lt below (pos 0) ≡ false) × IfSome told (λ tables. below ≡ tables.last table) → (int_lt last (pos 0) ≡ false) × IfSome (option_map (seen schema held.layers) told) (λ tables. last ≡ tables.last table)
last_gives schema told held table below last stands is gives =
    (ap (λ l. int_lt l (pos 0)) is ∙ last_whole schema table (held.layers table).last below (stands.now.0.counters table) gives.0, by_told told gives.1)
  where
    by_told : (told : Option Tables) → IfSome told (λ tables. below ≡ tables.last table) → IfSome (option_map (seen schema held.layers) told) (λ tables. last ≡ tables.last table)
    by_told None same = tt
    by_told (Some tables) same = is ∙ ap (over_last (held.layers table).last) same

-- ---- the changes of a view

abbrev pub ViewChanges : Schema → Connected → (Tables → Tables) → Held → Held → Type 0
ViewChanges schema connected f held after = (viewed schema after connected ≡ changed f (viewed schema held connected)) × Stands schema after connected

-- what succeeds without a call below
pub no_cause : (faults : Faults) (unit : Unit {0}) → HasCause faults faults (IsErrOf {T = Unit {0}} {E = ConnFault} (Ok unit) Failed)
no_cause faults unit = record {
  counted = record { later = omega arith; rose = λ failed. absurd (not_failed failed); still = λ fine. refl };
  never = λ sure. (not_failed, refl);
}
  where
    not_failed : IsErrOf {T = Unit {0}} {E = ConnFault} (Ok unit) Failed → ⊥
    not_failed failed = absurd (let h = failed in cc)

none_failed : (connected : Connected) → HasCauses {T = Unit {0}} connected connected (Ok tt)
none_failed connected = record {
  failed = no_cause connected.faults tt;
  misfit = record { later = omega arith; rose = λ failed. absurd failed; still = λ fine. refl };
  tells = λ told failed. failed;
}

pub made : (schema : Schema) (connected : Connected) (f : Tables → Tables) (held after : Held) → ViewChanges schema connected f held after → Changes f (viewed schema held connected) (viewed schema after connected) (Ok tt)
made schema connected f held after all = record { causes = none_failed connected; column = tt; calls = refl; ok = all.0; err = tt }

module _ (schema : Schema) (connected : Connected) (held after : Held) (stands : Stands schema held connected) where
  pub put_changes : (table : TableId) (row id : Row) → id ≡ id_row (table_at schema table.0) row → after ≡ entered table.0 id (Some row) held → is_row_of schema table.0 row ≡ true
      → LeadsFit schema (after_change schema (change.Put table row)) (option_map (seen schema held.layers) connected.told) → ViewChanges schema connected (after_change schema (change.Put table row)) held after
  put_changes table row id id_is is right fits =
      let new = with_layer table.0 (with_entry (id_row (table_at schema table.0) row) (Some row) (held.layers table.0)) held.layers in
      let new_is = is ∙ ap (λ (k : Row). entered table.0 k (Some row) held) id_is in
      let fit = put_fits schema held.layers stands.now.0 table row right (have_ids schema stands.sound table.0 row right) in
      let leads = λ (tables : Tables) (below : FitsSchema schema tables). put_is schema held.layers stands.now.0 tables below table row right in
      (viewed_changed schema held after new (after_change schema (change.Put table row)) new_is fit leads connected stands, change_stands schema held after new (after_change schema (change.Put table row)) new_is fit leads connected stands fits)

  pub remove_changes : (table : TableId) (asked id : Row) → id ≡ asked → after ≡ entered table.0 id None held → is_id_of schema table.0 asked ≡ true
      → LeadsFit schema (after_change schema (change.Remove table asked)) (option_map (seen schema held.layers) connected.told) → ViewChanges schema connected (after_change schema (change.Remove table asked)) held after
  remove_changes table asked id id_is is right fits =
      let new = with_layer table.0 (with_entry asked None (held.layers table.0)) held.layers in
      let new_is = is ∙ ap (λ (k : Row). entered table.0 k None held) id_is in
      let fit = remove_fits schema held.layers stands.now.0 table asked right in
      let leads = λ (tables : Tables) (below : FitsSchema schema tables). remove_is schema held.layers stands.now.0 tables below table asked right in
      (viewed_changed schema held after new (after_change schema (change.Remove table asked)) new_is fit leads connected stands, change_stands schema held after new (after_change schema (change.Remove table asked)) new_is fit leads connected stands fits)

  pub link_changes : (table : TableId) (a b : Value) (pair : Row) → pair ≡ pair_row (a, b) → after ≡ entered table.0 pair (Some pair) held → is_pair_of schema table.0 a b ≡ true
      → LeadsFit schema (after_change schema (change.Link table a b)) (option_map (seen schema held.layers) connected.told) → ViewChanges schema connected (after_change schema (change.Link table a b)) held after
  link_changes table a b pair pair_is is right fits =
      let new = with_layer table.0 (with_entry (pair_row (a, b)) (Some (pair_row (a, b))) (held.layers table.0)) held.layers in
      let new_is = is ∙ ap (λ (k : Row). entered table.0 k (Some k) held) pair_is in
      let fit = link_fits schema held.layers stands.now.0 table (a, b) right in
      let leads = λ (tables : Tables) (below : FitsSchema schema tables). link_is schema held.layers stands.now.0 tables below stands.sound table (a, b) right in
      (viewed_changed schema held after new (after_change schema (change.Link table a b)) new_is fit leads connected stands, change_stands schema held after new (after_change schema (change.Link table a b)) new_is fit leads connected stands fits)

  pub unlink_changes : (table : TableId) (a b : Value) (pair : Row) → pair ≡ pair_row (a, b) → after ≡ entered table.0 pair None held → is_pair_of schema table.0 a b ≡ true
      → LeadsFit schema (after_change schema (change.Unlink table a b)) (option_map (seen schema held.layers) connected.told) → ViewChanges schema connected (after_change schema (change.Unlink table a b)) held after
  unlink_changes table a b pair pair_is is right fits =
      let new = with_layer table.0 (with_entry (pair_row (a, b)) None (held.layers table.0)) held.layers in
      let new_is = is ∙ ap (λ (k : Row). entered table.0 k None held) pair_is in
      let fit = unlink_fits schema held.layers stands.now.0 table (a, b) right in
      let leads = λ (tables : Tables) (below : FitsSchema schema tables). unlink_is schema held.layers stands.now.0 tables below stands.sound table (a, b) right in
      (viewed_changed schema held after new (after_change schema (change.Unlink table a b)) new_is fit leads connected stands, change_stands schema held after new (after_change schema (change.Unlink table a b)) new_is fit leads connected stands fits)

-- the schema has the table of a row
model_there : (tables : List Table) (table : ℕ) → is_model_table (slice_get tables table) ≡ true → nat_lt table (length tables) ≡ true
model_there tables table is = by_found (slice_get tables table) refl is
  where
    by_found : (found : Option Table) → slice_get tables table ≡ found → is_model_table found ≡ true → nat_lt table (length tables) ≡ true
    by_found None none is = absurd (true≢false (sym is))
    by_found (Some shape) there is = lt-ltb table (length tables) (slice_get_within tables table shape there)

pub table_of_row : (schema : Schema) (table : ℕ) (row : Row) → is_row_of schema table row ≡ true → has_table schema table ≡ true
table_of_row schema table row right = model_there schema.tables table (and_parts (is_model schema table) _ right).0

pub table_of_page : (schema : Schema) (table : ℕ) (from : Option Row) → can_page schema table from ≡ true → has_table schema table ≡ true
table_of_page schema table from can = model_there schema.tables table (and_parts (is_model schema table) _ can).0

pub table_of_scan : (schema : Schema) (table : ℕ) (tests : List ColumnTest) → can_scan schema table tests ≡ true → has_table schema table ≡ true
table_of_scan schema table tests can = (and_parts (has_table schema table) _ can).0

pub row_id_is : (schema : Schema) (table : ℕ) (shape : Table) (columns : List ℕ) (row id : Row) → shape ≡ table_at schema table → columns ≡ id_columns shape → id.values ≡ at_columns columns row → id ≡ id_row (table_at schema table) row
row_id_is schema table shape columns row id shape_is columns_are id_is =
    λ i. record { values = (id_is ∙ ap (λ c. at_columns c row) (columns_are ∙ ap id_columns shape_is)) i }

-- ---- raising a counter

max_again : (a b c : ℤ) → int_max (int_max a b) c ≡ int_max a (int_max b c)
max_again a b c = omega (arith, ints, clamps)

raised_once : (below : ℤ) (last : ℤ) (before : Option ℤ) → over_last (Some (raised_over before last)) below ≡ int_max last (over_last before below)
raised_once below last None = refl
raised_once below last (Some raised) = max_again last raised below

raised_right : (schema : Schema) (table : ℕ) (last : ℤ) (before : Option ℤ) → is_last_of schema table last ≡ true → IfSome before (λ last. is_last_of schema table last ≡ true) → is_last_of schema table (raised_over before last) ≡ true
raised_right schema table last None right right_before = right
raised_right schema table last (Some raised) right right_before =
    let one = and_parts (is_model schema table) (not (int_lt last (pos 0))) right in
    let other = and_parts (is_model schema table) (not (int_lt raised (pos 0))) right_before in
    both (is_model schema table) (not (int_lt (int_max last raised) (pos 0))) one.0
    (ap not (int_max_whole last raised (not_true (int_lt last (pos 0)) one.1) (not_true (int_lt raised (pos 0)) other.1)))

pub raise_changes : (schema : Schema) (connected : Connected) (held after : Held) → Stands schema held connected → (table : TableId) (last : ℤ) → after ≡ raised table.0 last held → is_last_of schema table.0 last ≡ true
    → LeadsFit schema (after_change schema (change.Counter table last)) (option_map (seen schema held.layers) connected.told) → ViewChanges schema connected (after_change schema (change.Counter table last)) held after
raise_changes schema connected held after stands table last is right fits =
    let layer = with_raised last (held.layers table.0) in
    let new = with_layer table.0 layer held.layers in
    let fit = still_fit schema held.layers no_rows table.0 layer stands.now.0 (stands.now.0.order table.0) (stands.now.0.entries table.0) (raised_right schema table.0 last (held.layers table.0).last right (stands.now.0.counters table.0)) in
    let leads = λ (tables : Tables) (below : FitsSchema schema tables). last_changed schema held.layers tables table.0 layer (int_max last (over_last (held.layers table.0).last (tables.last table.0))) refl (raised_once (tables.last table.0) last (held.layers table.0).last) in
    (viewed_changed schema held after new (after_change schema (change.Counter table last)) is fit leads connected stands, change_stands schema held after new (after_change schema (change.Counter table last)) is fit leads connected stands fits)
