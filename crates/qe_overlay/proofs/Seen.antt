-- Changes of layers, and of the tables seen through them.
use Rattle.std.proofs.Common.{◌≡◌, ℕ, ℤ, pos, List, [], ◌∷◌, Option, Some, None, Bool, true, false, cond, not, refl, sym, ap, subst, ◌∙◌, slice_get}
use Rattle.std.specs.Prelude.{IfSome, ◌==◌}
use Rattle.std.specs.List.{AllByRecursion}
use Rattle.std.proofs.lemmas.Bool.{and_parts, eqb-true, eq-eqb}
use Rattle.qe_base.specs.ValueOrder.{row_cmp_total}
use Rattle.qe_base.specs.declared.schema.Table.{Table}
use Rattle.qe_base.specs.declared.value.Row.{Row}
use Rattle.qe_base.specs.declared.value.TableId.{TableId}
use Rattle.qe_base.specs.declared.value.Value.{Value}
use Rattle.qe_base.specs.Schemas.{Schema}
use Rattle.qe_schema.specs.Sound.{IsSound}
use Rattle.qe_schema.specs.Fits.{FitsSchema}
use Rattle.qe_schema.specs.Pairs.{with_pair, without_pair}
use Rattle.qe_schema.specs.Put.{put_among}
use Rattle.qe_schema.specs.Tables.{Tables, table_at, is_model, is_model_table, is_link, is_link_table, id_of, with_rows, with_last, with_pairs}
use Rattle.qe_view.specs.After.{after, pair_row, without_id}
use Rattle.qe_view.specs.Right.{is_row_of, is_id_of, is_pair_of, is_last_of}
use Rattle.qe_view.specs.declared.changes.Change.TheVariants as change
use Rattle.qe_overlay.specs.Fits.{IsRowAt, IsPairOf, FitsAs, FitsEntry, LayersFit}
use Rattle.qe_overlay.specs.Held.{with_layer, with_entry}
use Rattle.qe_overlay.specs.Laid.{id_row}
use Rattle.qe_overlay.specs.Layers.{Entry, Layer, Layers, over_rows, over_pairs, over_last, seen}
use Rattle.qe_overlay.proofs.Maps.{sorted-insert_entry}
use Rattle.qe_overlay.proofs.Rows.{OwnIds, SortedEntries, sorted_from, all-insert_entry, put_seen, remove_seen}
use Rattle.qe_overlay.proofs.Pairs.{PairEntry, link_seen, unlink_seen}

-- ---- link tables

model_is_none : (found : Option Table) → is_model_table found ≡ true → is_link_table found ≡ false
model_is_none None is = refl
model_is_none (Some table) is = by_kind table.link is
  where
    by_kind : (b : Bool) → not b ≡ true → b ≡ false
    by_kind true is = sym is
    by_kind false is = refl

pub model_not_link : (schema : Schema) (table : ℕ) → is_model schema table ≡ true → is_link schema table ≡ false
model_not_link schema table is = model_is_none (slice_get schema.tables table) is

-- ---- one layer

pub tables_same : (a b : Tables) → ((t : ℕ) → a.rows t ≡ b.rows t) → ((t : ℕ) → a.last t ≡ b.last t) → ((t : ℕ) → a.pairs t ≡ b.pairs t) → a ≡ b
tables_same a b rows last pairs = λ i. record { rows = λ t. rows t i; last = λ t. last t i; pairs = λ t. pairs t i }

-- what differs at one table alone
at_table : {A : Type 0} (table : ℕ) (f g : ℕ → A) (h : A) → f table ≡ h → ((t : ℕ) → t == table ≡ false → f t ≡ g t) → (t : ℕ) → f t ≡ cond (t == table) h (g t)
at_table table f g h here there t = by_number (t == table) refl
  where
    by_number : (b : Bool) → t == table ≡ b → f t ≡ cond b h (g t)
    by_number true same = ap f (eqb-true t table same) ∙ here
    by_number false other = there t other

same_everywhere : {A : Type 0} (table : ℕ) (f g : ℕ → A) → f table ≡ g table → ((t : ℕ) → t == table ≡ false → f t ≡ g t) → (t : ℕ) → f t ≡ g t
same_everywhere table f g here there t = by_number (t == table) refl
  where
    by_number : (b : Bool) → t == table ≡ b → f t ≡ g t
    by_number true same = ap f (eqb-true t table same) ∙ here ∙ ap g (sym (eqb-true t table same))
    by_number false other = there t other

module _ (schema : Schema) (layers : Layers) (tables : Tables) (table : ℕ) (layer : Layer) where
  changed : Layers
  changed = with_layer table layer layers

  here : with_layer table layer layers table ≡ layer
  here = ap (λ b. cond b layer (layers table)) (eq-eqb table table refl)

  there : (t : ℕ) → t == table ≡ false → with_layer table layer layers t ≡ layers t
  there t other = ap (λ b. cond b layer (layers t)) other

  rows_of : ℕ → Layer → List Row
  rows_of t l = cond (is_link schema t) (tables.rows t) (over_rows (table_at schema t) l.entries (tables.rows t))

  pub rows_changed : (new : List Row) → is_link schema table ≡ false → layer.last ≡ (layers table).last → over_rows (table_at schema table) layer.entries (tables.rows table) ≡ new
      → seen schema (with_layer table layer layers) tables ≡ with_rows table new (seen schema layers tables)
  rows_changed new model last is =
      tables_same (seen schema (with_layer table layer layers) tables) (with_rows table new (seen schema layers tables))
      (at_table table (seen schema (with_layer table layer layers) tables).rows (seen schema layers tables).rows new
      (ap (λ (l : Layer). cond (is_link schema table) (tables.rows table) (over_rows (table_at schema table) l.entries (tables.rows table))) here ∙ ap (λ b. cond b (tables.rows table) (over_rows (table_at schema table) layer.entries (tables.rows table))) model ∙ is)
      (λ t other. ap (λ (l : Layer). cond (is_link schema t) (tables.rows t) (over_rows (table_at schema t) l.entries (tables.rows t))) (there t other)))
      (same_everywhere table (seen schema (with_layer table layer layers) tables).last (seen schema layers tables).last
      (ap (λ (l : Layer). over_last l.last (tables.last table)) here ∙ ap (λ l. over_last l (tables.last table)) last)
      (λ t other. ap (λ (l : Layer). over_last l.last (tables.last t)) (there t other)))
      (same_everywhere table (seen schema (with_layer table layer layers) tables).pairs (seen schema layers tables).pairs
      (ap (λ b. cond b (over_pairs (with_layer table layer layers table).entries (tables.pairs table)) (tables.pairs table)) model ∙ sym (ap (λ b. cond b (over_pairs (layers table).entries (tables.pairs table)) (tables.pairs table)) model))
      (λ t other. ap (λ (l : Layer). cond (is_link schema t) (over_pairs l.entries (tables.pairs t)) (tables.pairs t)) (there t other)))

  pub pairs_changed : (new : List (Value × Value)) → is_link schema table ≡ true → layer.last ≡ (layers table).last → over_pairs layer.entries (tables.pairs table) ≡ new
      → seen schema (with_layer table layer layers) tables ≡ with_pairs table new (seen schema layers tables)
  pairs_changed new link last is =
      tables_same (seen schema (with_layer table layer layers) tables) (with_pairs table new (seen schema layers tables))
      (same_everywhere table (seen schema (with_layer table layer layers) tables).rows (seen schema layers tables).rows
      (ap (λ b. cond b (tables.rows table) (over_rows (table_at schema table) (with_layer table layer layers table).entries (tables.rows table))) link ∙ sym (ap (λ b. cond b (tables.rows table) (over_rows (table_at schema table) (layers table).entries (tables.rows table))) link))
      (λ t other. ap (λ (l : Layer). cond (is_link schema t) (tables.rows t) (over_rows (table_at schema t) l.entries (tables.rows t))) (there t other)))
      (same_everywhere table (seen schema (with_layer table layer layers) tables).last (seen schema layers tables).last
      (ap (λ (l : Layer). over_last l.last (tables.last table)) here ∙ ap (λ l. over_last l (tables.last table)) last)
      (λ t other. ap (λ (l : Layer). over_last l.last (tables.last t)) (there t other)))
      (at_table table (seen schema (with_layer table layer layers) tables).pairs (seen schema layers tables).pairs new
      (ap (λ (l : Layer). cond (is_link schema table) (over_pairs l.entries (tables.pairs table)) (tables.pairs table)) here ∙ ap (λ b. cond b (over_pairs layer.entries (tables.pairs table)) (tables.pairs table)) link ∙ is)
      (λ t other. ap (λ (l : Layer). cond (is_link schema t) (over_pairs l.entries (tables.pairs t)) (tables.pairs t)) (there t other)))

  pub last_changed : (new : ℤ) → layer.entries ≡ (layers table).entries → over_last layer.last (tables.last table) ≡ new
      → seen schema (with_layer table layer layers) tables ≡ with_last table new (seen schema layers tables)
  last_changed new entries is =
      tables_same (seen schema (with_layer table layer layers) tables) (with_last table new (seen schema layers tables))
      (same_everywhere table (seen schema (with_layer table layer layers) tables).rows (seen schema layers tables).rows
      (ap (λ es. cond (is_link schema table) (tables.rows table) (over_rows (table_at schema table) es (tables.rows table))) (ap (λ (l : Layer). l.entries) here ∙ entries))
      (λ t other. ap (λ (l : Layer). cond (is_link schema t) (tables.rows t) (over_rows (table_at schema t) l.entries (tables.rows t))) (there t other)))
      (at_table table (seen schema (with_layer table layer layers) tables).last (seen schema layers tables).last new
      (ap (λ (l : Layer). over_last l.last (tables.last table)) here ∙ is)
      (λ t other. ap (λ (l : Layer). over_last l.last (tables.last t)) (there t other)))
      (same_everywhere table (seen schema (with_layer table layer layers) tables).pairs (seen schema layers tables).pairs
      (ap (λ es. cond (is_link schema table) (over_pairs es (tables.pairs table)) (tables.pairs table)) (ap (λ (l : Layer). l.entries) here ∙ entries))
      (λ t other. ap (λ (l : Layer). cond (is_link schema t) (over_pairs l.entries (tables.pairs t)) (tables.pairs t)) (there t other)))

  -- the layers fit where the one that changed does
  pub still_fit : LayersFit schema layers → SortedEntries layer.entries → AllByRecursion (FitsEntry schema table) layer.entries → IfSome layer.last (λ last. is_last_of schema table last ≡ true) → LayersFit schema (with_layer table layer layers)
  still_fit fit order entries last = record {
    order = λ t. by_number t (λ l. SortedEntries l.entries) order (fit.order t);
    entries = λ t. with_number t (λ t l. AllByRecursion (FitsEntry schema t) l.entries) entries (fit.entries t);
    counters = λ t. with_number t (λ t l. IfSome l.last (λ last. is_last_of schema t last ≡ true)) last (fit.counters t);
  }
    where
      with_number : (t : ℕ) (P : ℕ → Layer → Type 0) → P table layer → P t (layers t) → P t (with_layer table layer layers t)
      with_number t P new old = go (t == table) refl
        where
          go : (b : Bool) → t == table ≡ b → P t (cond b layer (layers t))
          go true same = subst (λ n. P n layer) (sym (eqb-true t table same)) new
          go false other = old

      by_number : (t : ℕ) (P : Layer → Type 0) → P layer → P (layers t) → P (with_layer table layer layers t)
      by_number t P new old = with_number t (λ n l. P l) new old

-- ---- entries of models and of link tables

own_ids : (schema : Schema) (table : ℕ) (entries : List Entry) → is_link schema table ≡ false → AllByRecursion (FitsEntry schema table) entries → OwnIds (table_at schema table) entries
own_ids schema table [] model fit = tt
own_ids schema table (e ∷ entries) model fit = (by_now e.1 (subst (λ b. FitsAs b schema table e) model fit.0).1, own_ids schema table entries model fit.1)
  where
    by_now : (now : Option Row) → IfSome now (IsRowAt schema table e.0) → IfSome now (λ row. id_of (table_at schema table) row ≡ e.0.values)
    by_now None fits = tt
    by_now (Some row) fits = fits.1

pair_entries : (schema : Schema) (table : ℕ) (entries : List Entry) → is_link schema table ≡ true → AllByRecursion (FitsEntry schema table) entries → AllByRecursion PairEntry entries
pair_entries schema table [] link fit = tt
pair_entries schema table (e ∷ entries) link fit = let this = subst (λ b. FitsAs b schema table e) link fit.0 in ((this.0.1, this.1), pair_entries schema table entries link fit.1)

pub entries_own : (schema : Schema) (layers : Layers) → LayersFit schema layers → (table : ℕ) → is_link schema table ≡ false → OwnIds (table_at schema table) (layers table).entries
entries_own schema layers fit table model = own_ids schema table (layers table).entries model (fit.entries table)

pub entries_pairs : (schema : Schema) (layers : Layers) → LayersFit schema layers → (table : ℕ) → is_link schema table ≡ true → AllByRecursion PairEntry (layers table).entries
entries_pairs schema layers fit table link = pair_entries schema table (layers table).entries link (fit.entries table)

-- ---- the changes of a view

module _ (schema : Schema) (layers : Layers) (fit : LayersFit schema layers) where
  entered_fits : (table : ℕ) (id : Row) (now : Option Row) → FitsEntry schema table (id, now) → LayersFit schema (with_layer table (with_entry id now (layers table)) layers)
  entered_fits table id now fits =
      still_fit schema layers (let none : Tables = record { rows = λ t. []; last = λ t. pos 0; pairs = λ t. [] } in none) table (with_entry id now (layers table)) fit
      (sorted-insert_entry row_cmp_total id now (layers table).entries (fit.order table))
      (all-insert_entry (FitsEntry schema table) id now (layers table).entries (fit.entries table) fits)
      (fit.counters table)

  as_model : (table : ℕ) (id : Row) (now : Option Row) → is_link schema table ≡ false → (is_id_of schema table id ≡ true) × IfSome now (IsRowAt schema table id) → FitsEntry schema table (id, now)
  as_model table id now model fits = subst (λ b. FitsAs b schema table (id, now)) (sym model) fits

  as_link : (table : ℕ) (id : Row) (now : Option Row) → is_link schema table ≡ true → IsPairOf schema table id × IfSome now (λ row. row ≡ id) → FitsEntry schema table (id, now)
  as_link table id now link fits = subst (λ b. FitsAs b schema table (id, now)) (sym link) fits

  pub put_fits : (table : TableId) (row : Row) → is_row_of schema table.0 row ≡ true → is_id_of schema table.0 (id_row (table_at schema table.0) row) ≡ true
      → LayersFit schema (with_layer table.0 (with_entry (id_row (table_at schema table.0) row) (Some row) (layers table.0)) layers)
  put_fits table row right id_right =
      let model = model_not_link schema table.0 (and_parts (is_model schema table.0) _ right).0 in
      entered_fits table.0 (id_row (table_at schema table.0) row) (Some row) (as_model table.0 (id_row (table_at schema table.0) row) (Some row) model (id_right, (right, refl)))

  pub remove_fits : (table : TableId) (id : Row) → is_id_of schema table.0 id ≡ true → LayersFit schema (with_layer table.0 (with_entry id None (layers table.0)) layers)
  remove_fits table id right =
      let model = model_not_link schema table.0 (and_parts (is_model schema table.0) _ right).0 in
      entered_fits table.0 id None (as_model table.0 id None model (right, tt))

  pub link_fits : (table : TableId) (pair : Value × Value) → is_pair_of schema table.0 pair.0 pair.1 ≡ true → LayersFit schema (with_layer table.0 (with_entry (pair_row pair) (Some (pair_row pair)) (layers table.0)) layers)
  link_fits table pair right =
      let link = (and_parts (is_link schema table.0) _ right).0 in
      entered_fits table.0 (pair_row pair) (Some (pair_row pair)) (as_link table.0 (pair_row pair) (Some (pair_row pair)) link ((right, refl), refl))

  pub unlink_fits : (table : TableId) (pair : Value × Value) → is_pair_of schema table.0 pair.0 pair.1 ≡ true → LayersFit schema (with_layer table.0 (with_entry (pair_row pair) None (layers table.0)) layers)
  unlink_fits table pair right =
      let link = (and_parts (is_link schema table.0) _ right).0 in
      entered_fits table.0 (pair_row pair) None (as_link table.0 (pair_row pair) None link ((right, refl), tt))

  module _ (tables : Tables) (below : FitsSchema schema tables) where
    pub put_is : (table : TableId) (row : Row) → is_row_of schema table.0 row ≡ true
        → seen schema (with_layer table.0 (with_entry (id_row (table_at schema table.0) row) (Some row) (layers table.0)) layers) tables ≡ after schema (change.Put table row) (seen schema layers tables)
    put_is table row right =
        let model = model_not_link schema table.0 (and_parts (is_model schema table.0) _ right).0 in
        rows_changed schema layers tables table.0 (with_entry (id_row (table_at schema table.0) row) (Some row) (layers table.0)) _ model refl
        (put_seen (table_at schema table.0) (layers table.0).entries (tables.rows table.0) row (id_row (table_at schema table.0) row) (fit.order table.0) (entries_own schema layers fit table.0 model) (sorted_from (table_at schema table.0) (tables.rows table.0) (below.order table.0)) refl)
        ∙ ap (λ b. with_rows table.0 (put_among (table_at schema table.0) row (cond b (tables.rows table.0) (over_rows (table_at schema table.0) (layers table.0).entries (tables.rows table.0)))) (seen schema layers tables)) (sym model)

    pub remove_is : (table : TableId) (id : Row) → is_id_of schema table.0 id ≡ true
        → seen schema (with_layer table.0 (with_entry id None (layers table.0)) layers) tables ≡ after schema (change.Remove table id) (seen schema layers tables)
    remove_is table id right =
        let model = model_not_link schema table.0 (and_parts (is_model schema table.0) _ right).0 in
        rows_changed schema layers tables table.0 (with_entry id None (layers table.0)) _ model refl
        (remove_seen (table_at schema table.0) (layers table.0).entries (tables.rows table.0) id (fit.order table.0) (entries_own schema layers fit table.0 model) (sorted_from (table_at schema table.0) (tables.rows table.0) (below.order table.0)))
        ∙ ap (λ b. with_rows table.0 (without_id (table_at schema table.0) id.values (cond b (tables.rows table.0) (over_rows (table_at schema table.0) (layers table.0).entries (tables.rows table.0)))) (seen schema layers tables)) (sym model)

    pub link_is : IsSound schema → (table : TableId) (pair : Value × Value) → is_pair_of schema table.0 pair.0 pair.1 ≡ true
        → seen schema (with_layer table.0 (with_entry (pair_row pair) (Some (pair_row pair)) (layers table.0)) layers) tables ≡ after schema (change.Link table pair.0 pair.1) (seen schema layers tables)
    link_is sound table pair right =
        let link = (and_parts (is_link schema table.0) _ right).0 in
        let later = link_fits table pair right in
        pairs_changed schema layers tables table.0 (with_entry (pair_row pair) (Some (pair_row pair)) (layers table.0)) _ link refl
        (link_seen (table_at schema table.0) (sound.two_columns table.0 link).id (layers table.0).entries (tables.pairs table.0) pair (fit.order table.0) (entries_pairs schema layers fit table.0 link)
        (all-insert_entry PairEntry (pair_row pair) (Some (pair_row pair)) (layers table.0).entries (entries_pairs schema layers fit table.0 link) (refl, refl))
        (below.pair_order table.0))
        ∙ ap (λ b. with_pairs table.0 (with_pair pair (cond b (over_pairs (layers table.0).entries (tables.pairs table.0)) (tables.pairs table.0))) (seen schema layers tables)) (sym link)

    pub unlink_is : IsSound schema → (table : TableId) (pair : Value × Value) → is_pair_of schema table.0 pair.0 pair.1 ≡ true
        → seen schema (with_layer table.0 (with_entry (pair_row pair) None (layers table.0)) layers) tables ≡ after schema (change.Unlink table pair.0 pair.1) (seen schema layers tables)
    unlink_is sound table pair right =
        let link = (and_parts (is_link schema table.0) _ right).0 in
        pairs_changed schema layers tables table.0 (with_entry (pair_row pair) None (layers table.0)) _ link refl
        (unlink_seen (table_at schema table.0) (sound.two_columns table.0 link).id (layers table.0).entries (tables.pairs table.0) pair (fit.order table.0) (entries_pairs schema layers fit table.0 link)
        (all-insert_entry PairEntry (pair_row pair) None (layers table.0).entries (entries_pairs schema layers fit table.0 link) (refl, tt))
        (below.pair_order table.0))
        ∙ ap (λ b. with_pairs table.0 (without_pair pair (cond b (over_pairs (layers table.0).entries (tables.pairs table.0)) (tables.pairs table.0))) (seen schema layers tables)) (sym link)
