-- That the changes of the layers make of the tables below those that are seen.
use Rattle.std.proofs.Common.{◌≡◌, ◌<◌, ◌≤◌, ◌+◌, ◌⊎◌, inl, inr, ℕ, zero, suc, ℤ, List, [], ◌∷◌, ◌++◌, filter, Option, Some, None, Bool, true, false, cond, not, ◌&&◌, ◌||◌, refl, sym, ap, subst, ◌∙◌, true≢false, is_eq, is_some, arith, take, length, slice_get}
use Rattle.std.specs.Prelude.{◌==◌, IfOk, IfSome, nat_le, unwrap_or, Result, Ok, Err}
use Rattle.std.specs.Int.{int_max}
use Rattle.std.specs.List.{AllByRecursion, list_all}
use Rattle.std.proofs.lemmas.Bool.{and_parts, eq-eqb, ne_eqb, leb-true, le-leb}
use Rattle.std.proofs.lemmas.Option.{slice_get_past, slice_get_within}
use Rattle.std.proofs.lemmas.List.{append_assoc}
use Rattle.qe_base.specs.Values.{row_cmp}
use Rattle.qe_base.specs.ValueOrder.{row_cmp_total}
use Rattle.qe_base.specs.declared.schema.Table.{Table}
use Rattle.qe_base.specs.declared.value.Row.{Row}
use Rattle.qe_base.specs.declared.value.TableId.{TableId}
use Rattle.qe_base.specs.Schemas.{Schema}
use Rattle.qe_schema.specs.Sound.{IsSound}
use Rattle.qe_schema.specs.Columns.{are_same}
use Rattle.qe_schema.specs.Fits.{FitsSchema}
use Rattle.qe_schema.specs.Pairs.{with_pair, without_pair, PairsAscend}
use Rattle.qe_schema.specs.Put.{put_among}
use Rattle.qe_schema.specs.Tables.{Tables, table_at, is_link, is_link_table, is_model, is_model_table, id_columns, id_of, row_at}
use Rattle.qe_view.specs.After.{after, after_all, without_id, pair_row}
use Rattle.qe_view.specs.Right.{is_row_of, is_pair_of, is_last_of, is_right, in_stages, stage as stage_of, are_right, AreFree}
use Rattle.qe_view.specs.declared.changes.Change.{Change}
use Rattle.qe_view.specs.declared.changes.Change.TheVariants.{Remove, Put, Unlink, Link, Counter}
use Rattle.qe_overlay.specs.Fits.{FitsAs, FitsEntry, LayersFit}
use Rattle.qe_overlay.specs.Held.{layers_in}
use Rattle.qe_overlay.specs.Laid.{id_row, untouched}
use Rattle.qe_overlay.specs.Layers.{Entry, Layer, Layers, no_layer, no_layers, is_entered, over_rows, over_pairs, over_last, pair_of, seen}
use Rattle.qe_overlay.specs.Settled.{numbered, entry_changes, all_entries, counter_changes, table_changes, stage_from, stage_changes, settled_by, SettlesBelow}
use Rattle.qe_overlay.specs.declared.changes.Stage.{Stage}
use Rattle.qe_overlay.specs.declared.changes.Stage.TheVariants.{Removes, Puts, Unlinks, Links, Counters}
use Rattle.qe_schema.proofs.Equal.{same_as_rows}
use Rattle.qe_overlay.proofs.Maps.{same_back}
use Rattle.qe_overlay.proofs.Pairs.{Pairs, as_rows, PairEntry, with_as_rows, without_as_rows, pairs_same, pairs_sorted, pairs_own, over_as_rows}
use Rattle.qe_overlay.proofs.Rows.{keyed, Sorted, OwnIds, SortedEntries, at, put_over, over_none, behind, own_key, tail_sorted, sorted_from, sorted-put_among, found-put_among, found_over_present, found-untouched, sorted-untouched, sorted_over, rows_same}
use Rattle.qe_overlay.proofs.Seen.{tables_same, entries_own, entries_pairs}
use Rattle.qe_overlay.proofs.Steps.{every_entry, every_from, units, followed, table_still, all_here, stage_here, rows_step, pairs_step, last_step, rows_idle, pairs_idle, last_idle, rows_still, pairs_still, last_still, after_rows, after_pairs, after_last}
use Rattle.qe_overlay.proofs.Undoing.{equal_itself}

itself : (t : ℕ) → t == t ≡ true
itself t = eq-eqb t t refl

-- ---- rows of one table: the entered ones go, and those that are there come again

abbrev removed : Table → List Entry → List Row → List Row
removed table [] rows = rows
removed table (e ∷ entries) rows = removed table entries (without_id table e.0.values rows)

abbrev put_now : Table → Option Row → List Row → List Row
put_now table None rows = rows
put_now table (Some row) rows = put_among table row rows

abbrev placed : Table → List Entry → List Row → List Row
placed table [] rows = rows
placed table (e ∷ entries) rows = placed table entries (put_now table e.1 rows)

filter_twice : (p q r : Row → Bool) → ((row : Row) → q row && p row ≡ r row) → (rows : List Row) → filter p (filter q rows) ≡ filter r rows
filter_twice p q r same [] = refl
filter_twice p q r same (row ∷ rows) = by_test (q row) (p row) (r row) refl (same row) (filter_twice p q r same rows)
  where
    by_test : (a b c : Bool) → p row ≡ b → a && b ≡ c → filter p (filter q rows) ≡ filter r rows → filter p (cond a (row ∷ filter q rows) (filter q rows)) ≡ cond c (row ∷ filter r rows) (filter r rows)
    by_test true true c is at later = ap (λ b. cond b (row ∷ filter p (filter q rows)) (filter p (filter q rows))) is ∙ ap (λ l. row ∷ l) later ∙ ap (λ c. cond c (row ∷ filter r rows) (filter r rows)) at
    by_test true false c is at later = ap (λ b. cond b (row ∷ filter p (filter q rows)) (filter p (filter q rows))) is ∙ later ∙ ap (λ c. cond c (row ∷ filter r rows) (filter r rows)) at
    by_test false b c is at later = later ∙ ap (λ c. cond c (row ∷ filter r rows) (filter r rows)) at

not_either : (a b : Bool) → not a && not b ≡ not (a || b)
not_either true b = refl
not_either false b = refl

same_turned : (a b : Row) → are_same a.values b.values ≡ are_same b.values a.values
same_turned a b = same_as_rows a b ∙ same_back row_cmp_total a b ∙ sym (same_as_rows b a)

removed_is : (table : Table) (entries : List Entry) (rows : List Row) → removed table entries rows ≡ untouched table entries rows
removed_is table [] rows = all_kept rows
  where
    all_kept : (rows : List Row) → rows ≡ filter (λ row. true) rows
    all_kept [] = refl
    all_kept (row ∷ rows) = ap (λ l. row ∷ l) (all_kept rows)
removed_is table (e ∷ entries) rows =
    removed_is table entries (without_id table e.0.values rows)
    ∙ filter_twice (λ row. not (is_entered entries (id_of table row))) (λ row. not (are_same (id_of table row) e.0.values)) (λ row. not (is_entered (e ∷ entries) (id_of table row)))
    (λ row. ap (λ b. not b && not (is_entered entries (id_of table row))) (same_turned (id_row table row) e.0) ∙ not_either (are_same e.0.values (id_of table row)) (is_entered entries (id_of table row)))
    rows

sorted-placed : (table : Table) (entries : List Entry) (rows : List Row) → Sorted table rows → Sorted table (placed table entries rows)
sorted-placed table [] rows sorted = sorted
sorted-placed table (e ∷ entries) rows sorted = sorted-placed table entries (put_now table e.1 rows) (by_now e.1)
  where
    by_now : (now : Option Row) → Sorted table (put_now table now rows)
    by_now None = sorted
    by_now (Some row) = sorted-put_among table row rows sorted

put_under : (b : Bool) (row : Row) (o : Option (Option Row)) (below : Option Row) → (b ≡ true → o ≡ None) → put_over o (cond b (Some row) below) ≡ put_over (cond b (Some (Some row)) o) below
put_under true row o below none = ap (λ x. put_over x (Some row)) (none refl)
put_under false row o below none = refl

found_placed : (table : Table) (entries : List Entry) (rows : List Row) (q : Row) → SortedEntries entries → OwnIds table entries → Sorted table rows
    → at q (keyed table (placed table entries rows)) ≡ put_over (at q entries) (at q (keyed table rows))
found_placed table [] rows q sorted own below = refl
found_placed table (e ∷ entries) rows q sorted own below =
    by_now e.1 own.0 (λ s. behind e entries q sorted s) (λ rows below. found_placed table entries rows q (tail_sorted e entries sorted) own.1 below)
  where
    by_now : (now : Option Row) → IfSome now (λ row. id_of table row ≡ e.0.values) → (is_eq (row_cmp q e.0) ≡ true → at q entries ≡ None)
        → ((rows : List Row) → Sorted table rows → at q (keyed table (placed table entries rows)) ≡ put_over (at q entries) (at q (keyed table rows)))
        → at q (keyed table (placed table entries (put_now table now rows))) ≡ put_over (cond (is_eq (row_cmp q e.0)) (Some now) (at q entries)) (at q (keyed table rows))
    by_now None own none later = later rows below ∙ over_none (is_eq (row_cmp q e.0)) (at q entries) (at q (keyed table rows)) none
    by_now (Some row) own none later =
        later (put_among table row rows) (sorted-put_among table row rows below)
        ∙ ap (put_over (at q entries)) (found-put_among table row rows q below)
        ∙ (λ i. put_over (at q entries) (cond (is_eq (row_cmp q (own_key table e.0 row own i))) (Some row) (at q (keyed table rows))))
        ∙ put_under (is_eq (row_cmp q e.0)) row (at q entries) (at q (keyed table rows)) none

placed_over : (table : Table) (entries : List Entry) (rows : List Row) → SortedEntries entries → OwnIds table entries → Sorted table rows → placed table entries (removed table entries rows) ≡ over_rows table entries rows
placed_over table entries rows sorted own below =
    let left : Sorted table (untouched table entries rows) = sorted-untouched table entries rows below in
    ap (placed table entries) (removed_is table entries rows)
    ∙ rows_same table (placed table entries (untouched table entries rows)) (over_rows table entries rows)
    (sorted-placed table entries (untouched table entries rows) left)
    (sorted_over table entries rows below)
    (λ q. found_placed table entries (untouched table entries rows) q sorted own left ∙ sym (found_over_present table entries (untouched table entries rows) q sorted own left))

-- ---- the steps of a model

module _ (schema : Schema) (t : ℕ) where
  removes_rows : (entries : List Entry) (rows : List Row) → followed (rows_step schema t) (all_entries Removes (numbered t) entries) rows ≡ removed (table_at schema t) entries rows
  removes_rows [] rows = refl
  removes_rows (e ∷ entries) rows =
      ap (λ b. followed (rows_step schema t) (all_entries Removes (numbered t) entries) (cond b (without_id (table_at schema t) e.0.values rows) rows)) (itself t)
      ∙ removes_rows entries (without_id (table_at schema t) e.0.values rows)

  puts_rows : (entries : List Entry) (rows : List Row) → followed (rows_step schema t) (all_entries Puts (numbered t) entries) rows ≡ placed (table_at schema t) entries rows
  puts_rows [] rows = refl
  puts_rows (e ∷ entries) rows = by_now e.1 (puts_rows entries)
    where
      by_now : (now : Option Row) → ((rows : List Row) → followed (rows_step schema t) (all_entries Puts (numbered t) entries) rows ≡ placed (table_at schema t) entries rows)
          → followed (rows_step schema t) (entry_changes Puts (numbered t) e.0 now ++ all_entries Puts (numbered t) entries) rows ≡ placed (table_at schema t) entries (put_now (table_at schema t) now rows)
      by_now None later = later rows
      by_now (Some row) later =
          ap (λ b. followed (rows_step schema t) (all_entries Puts (numbered t) entries) (cond b (put_among (table_at schema t) row rows) rows)) (itself t)
          ∙ later (put_among (table_at schema t) row rows)

  rows_here : (b : Bool) (layer : Layer) (rows : List Row) → (b ≡ false → SortedEntries layer.entries × OwnIds (table_at schema t) layer.entries × Sorted (table_at schema t) rows)
      → followed (rows_step schema t) (table_changes b Puts (numbered t) layer) (followed (rows_step schema t) (table_changes b Removes (numbered t) layer) rows)
      ≡ cond b rows (over_rows (table_at schema t) layer.entries rows)
  rows_here true layer rows ready = refl
  rows_here false layer rows ready =
      let all = ready refl in
      ap (followed (rows_step schema t) (all_entries Puts (numbered t) layer.entries)) (removes_rows layer.entries rows)
      ∙ puts_rows layer.entries (removed (table_at schema t) layer.entries rows)
      ∙ placed_over (table_at schema t) layer.entries rows all.0 all.1 all.2

-- ---- the steps of a link table

module _ (table : Table) (id_is : id_columns table ≡ 0 ∷ 1 ∷ []) (t : ℕ) where
  unlinks_rows : (entries : List Entry) (pairs : Pairs) → AllByRecursion PairEntry entries → as_rows (followed (pairs_step t) (all_entries Unlinks (numbered t) entries) pairs) ≡ removed table entries (as_rows pairs)
  unlinks_rows [] pairs all = refl
  unlinks_rows (e ∷ entries) pairs all =
      ap (λ b. as_rows (followed (pairs_step t) (all_entries Unlinks (numbered t) entries) (cond b (without_pair (pair_of e.0) pairs) pairs))) (itself t)
      ∙ unlinks_rows entries (without_pair (pair_of e.0) pairs) all.1
      ∙ ap (removed table entries) (without_as_rows table id_is (pair_of e.0) pairs)
      ∙ ap (λ (r : Row). removed table entries (without_id table r.values (as_rows pairs))) all.0.0

  links_rows : (entries : List Entry) (pairs : Pairs) → AllByRecursion PairEntry entries → as_rows (followed (pairs_step t) (all_entries Links (numbered t) entries) pairs) ≡ placed table entries (as_rows pairs)
  links_rows [] pairs all = refl
  links_rows (e ∷ entries) pairs all = by_now e.1 all.0.1 (λ pairs. links_rows entries pairs all.1)
    where
      by_now : (now : Option Row) → IfSome now (λ row. row ≡ e.0) → ((pairs : Pairs) → as_rows (followed (pairs_step t) (all_entries Links (numbered t) entries) pairs) ≡ placed table entries (as_rows pairs))
          → as_rows (followed (pairs_step t) (entry_changes Links (numbered t) e.0 now ++ all_entries Links (numbered t) entries) pairs) ≡ placed table entries (put_now table now (as_rows pairs))
      by_now None same later = later pairs
      by_now (Some row) same later =
          ap (λ b. as_rows (followed (pairs_step t) (all_entries Links (numbered t) entries) (cond b (with_pair (pair_of row) pairs) pairs))) (itself t)
          ∙ later (with_pair (pair_of row) pairs)
          ∙ ap (placed table entries) (with_as_rows table id_is (pair_of row) pairs)
          ∙ ap (λ (r : Row). placed table entries (put_among table r (as_rows pairs))) (ap (λ (r : Row). pair_row (pair_of r)) same ∙ all.0.0 ∙ sym same)

  link_here : (entries : List Entry) (pairs : Pairs) → SortedEntries entries → AllByRecursion PairEntry entries → PairsAscend pairs
      → followed (pairs_step t) (all_entries Links (numbered t) entries) (followed (pairs_step t) (all_entries Unlinks (numbered t) entries) pairs) ≡ over_pairs entries pairs
  link_here entries pairs sorted all ascend =
      pairs_same (followed (pairs_step t) (all_entries Links (numbered t) entries) (followed (pairs_step t) (all_entries Unlinks (numbered t) entries) pairs)) (over_pairs entries pairs)
      (links_rows entries (followed (pairs_step t) (all_entries Unlinks (numbered t) entries) pairs) all
      ∙ ap (placed table entries) (unlinks_rows entries pairs all)
      ∙ placed_over table entries (as_rows pairs) sorted (pairs_own table id_is entries all) (pairs_sorted table id_is pairs ascend)
      ∙ sym (over_as_rows table id_is entries pairs all))

pairs_here : (t : ℕ) (table : Table) (b : Bool) (layer : Layer) (pairs : Pairs) → (b ≡ true → (id_columns table ≡ 0 ∷ 1 ∷ []) × SortedEntries layer.entries × AllByRecursion PairEntry layer.entries × PairsAscend pairs)
    → followed (pairs_step t) (table_changes b Links (numbered t) layer) (followed (pairs_step t) (table_changes b Unlinks (numbered t) layer) pairs) ≡ cond b (over_pairs layer.entries pairs) pairs
pairs_here t table false layer pairs ready = refl
pairs_here t table true layer pairs ready = let all = ready refl in link_here table all.0 t layer.entries pairs all.1 all.2 all.3

last_here : (t : ℕ) (raised : Option ℤ) (last : ℤ) → followed (last_step t) (counter_changes (numbered t) raised) last ≡ over_last raised last
last_here t None last = refl
last_here t (Some raised) last = ap (λ b. cond b (int_max raised last) last) (itself t)

-- ---- the tables after all changes

module _ (schema : Schema) (sound : IsSound schema) (layers : List Layer) (fit : LayersFit schema (layers_in layers)) (tables : Tables) (below : FitsSchema schema tables) where
  model_ready : (t : ℕ) → is_link schema t ≡ false → SortedEntries (layers_in layers t).entries × OwnIds (table_at schema t) (layers_in layers t).entries × Sorted (table_at schema t) (tables.rows t)
  model_ready t model = (fit.order t, entries_own schema (layers_in layers) fit t model, sorted_from (table_at schema t) (tables.rows t) (below.order t))

  rows_seen : (t : ℕ) → (after_all schema (settled_by schema layers) tables).rows t ≡ (seen schema (layers_in layers) tables).rows t
  rows_seen t =
      let layer = layers_in layers t in
      let b = is_link schema t in
      let there : List Row = followed (rows_step schema t) (table_changes b Puts (numbered t) layer) (followed (rows_step schema t) (table_changes b Removes (numbered t) layer) (tables.rows t)) in
      let unlinked : List Row = followed (rows_step schema t) (table_changes b Unlinks (numbered t) layer) there in
      let linked : List Row = followed (rows_step schema t) (table_changes b Links (numbered t) layer) unlinked in
      after_rows schema (settled_by schema layers) t tables
      ∙ all_here (rows_step schema) rows_idle (rows_still schema) schema layers t (tables.rows t)
      ∙ table_still (rows_step schema) rows_idle (rows_still schema) t t Counters (inr refl) b layer linked
      ∙ table_still (rows_step schema) rows_idle (rows_still schema) t t Links (inr refl) b layer unlinked
      ∙ table_still (rows_step schema) rows_idle (rows_still schema) t t Unlinks (inr refl) b layer there
      ∙ rows_here schema t b layer (tables.rows t) (model_ready t)

  pairs_seen : (t : ℕ) → (after_all schema (settled_by schema layers) tables).pairs t ≡ (seen schema (layers_in layers) tables).pairs t
  pairs_seen t =
      let layer = layers_in layers t in
      let b = is_link schema t in
      let kept : Pairs = followed (pairs_step t) (table_changes b Removes (numbered t) layer) (tables.pairs t) in
      let there : Pairs = followed (pairs_step t) (table_changes b Puts (numbered t) layer) kept in
      let same : there ≡ tables.pairs t = table_still pairs_step pairs_idle pairs_still t t Puts (inr refl) b layer kept ∙ table_still pairs_step pairs_idle pairs_still t t Removes (inr refl) b layer (tables.pairs t) in
      after_pairs schema (settled_by schema layers) t tables
      ∙ all_here pairs_step pairs_idle pairs_still schema layers t (tables.pairs t)
      ∙ table_still pairs_step pairs_idle pairs_still t t Counters (inr refl) b layer (followed (pairs_step t) (table_changes b Links (numbered t) layer) (followed (pairs_step t) (table_changes b Unlinks (numbered t) layer) there))
      ∙ ap (λ ps. followed (pairs_step t) (table_changes b Links (numbered t) layer) (followed (pairs_step t) (table_changes b Unlinks (numbered t) layer) ps)) same
      ∙ pairs_here t (table_at schema t) b layer (tables.pairs t) (λ link. ((sound.two_columns t link).id, fit.order t, entries_pairs schema (layers_in layers) fit t link, below.pair_order t))

  last_seen : (t : ℕ) → (after_all schema (settled_by schema layers) tables).last t ≡ (seen schema (layers_in layers) tables).last t
  last_seen t =
      let layer = layers_in layers t in
      let b = is_link schema t in
      let one : ℤ = followed (last_step t) (table_changes b Removes (numbered t) layer) (tables.last t) in
      let two : ℤ = followed (last_step t) (table_changes b Puts (numbered t) layer) one in
      let three : ℤ = followed (last_step t) (table_changes b Unlinks (numbered t) layer) two in
      let four : ℤ = followed (last_step t) (table_changes b Links (numbered t) layer) three in
      let same : four ≡ tables.last t = table_still last_step last_idle last_still t t Links (inr refl) b layer three ∙ table_still last_step last_idle last_still t t Unlinks (inr refl) b layer two ∙ table_still last_step last_idle last_still t t Puts (inr refl) b layer one ∙ table_still last_step last_idle last_still t t Removes (inr refl) b layer (tables.last t) in
      after_last schema (settled_by schema layers) t tables
      ∙ all_here last_step last_idle last_still schema layers t (tables.last t)
      ∙ ap (followed (last_step t) (counter_changes (numbered t) layer.last)) same
      ∙ last_here t layer.last (tables.last t)

  pub after_seen : after_all schema (settled_by schema layers) tables ≡ seen schema (layers_in layers) tables
  after_seen = tables_same (after_all schema (settled_by schema layers) tables) (seen schema (layers_in layers) tables) rows_seen last_seen pairs_seen

-- ---- each change is right

both : (a b : Bool) → a ≡ true → b ≡ true → a && b ≡ true
both a b x y = rw (x, y) refl

module _ (schema : Schema) where
  abbrev AllRight : List Change → Type 0
  AllRight changes = list_all (is_right schema) changes ≡ true

  right_both : (xs ys : List Change) → AllRight xs → AllRight ys → AllRight (xs ++ ys)
  right_both [] ys all others = others
  right_both (x ∷ xs) ys all others =
      let parts = and_parts (is_right schema x) (list_all (is_right schema) xs) all in
      both (is_right schema x) (list_all (is_right schema) (xs ++ ys)) parts.0 (right_both xs ys parts.1 others)

  alone : (c : Change) → is_right schema c ≡ true → AllRight (c ∷ [])
  alone c right = both (is_right schema c) true right refl

  entry_right_model : (n : ℕ) (stage : Stage) → (stage_is : (stage ≡ Removes) ⊎ (stage ≡ Puts)) → (e : Entry) → FitsAs false schema n e → AllRight (entry_changes stage (numbered n) e.0 e.1)
  entry_right_model n stage (inl is) e fits = subst (λ (s : Stage). AllRight (entry_changes s (numbered n) e.0 e.1)) (sym is) (alone (Remove (numbered n) e.0) fits.0)
  entry_right_model n stage (inr is) e fits = subst (λ (s : Stage). AllRight (entry_changes s (numbered n) e.0 e.1)) (sym is) (by_now e.1 fits.1)
    where
      by_now : (now : Option Row) → IfSome now (λ row. (is_row_of schema n row ≡ true) × (id_of (table_at schema n) row ≡ e.0.values)) → AllRight (entry_changes Puts (numbered n) e.0 now)
      by_now None fits = refl
      by_now (Some row) fits = alone (Put (numbered n) row) fits.0

  pair_right : (n : ℕ) (row : Row) (e : Entry) → row ≡ e.0 → FitsAs true schema n e → is_pair_of schema n (pair_of row).0 (pair_of row).1 ≡ true
  pair_right n row e same fits = ap (λ (r : Row). is_pair_of schema n (pair_of r).0 (pair_of r).1) same ∙ fits.0.0

  entry_right_link : (n : ℕ) (stage : Stage) → (stage_is : (stage ≡ Unlinks) ⊎ (stage ≡ Links)) → (e : Entry) → FitsAs true schema n e → AllRight (entry_changes stage (numbered n) e.0 e.1)
  entry_right_link n stage (inl is) e fits = subst (λ (s : Stage). AllRight (entry_changes s (numbered n) e.0 e.1)) (sym is) (alone (Unlink (numbered n) (pair_of e.0).0 (pair_of e.0).1) fits.0.0)
  entry_right_link n stage (inr is) e fits = subst (λ (s : Stage). AllRight (entry_changes s (numbered n) e.0 e.1)) (sym is) (by_now e.1 fits.1)
    where
      by_now : (now : Option Row) → IfSome now (λ row. row ≡ e.0) → AllRight (entry_changes Links (numbered n) e.0 now)
      by_now None same = refl
      by_now (Some row) same = alone (Link (numbered n) (pair_of row).0 (pair_of row).1) (pair_right n row e same fits)

  abbrev LayerFits : ℕ → Layer → Type 0
  LayerFits n layer = AllByRecursion (FitsEntry schema n) layer.entries × IfSome layer.last (λ last. is_last_of schema n last ≡ true)

  counter_right : (n : ℕ) (last : Option ℤ) → IfSome last (λ last. is_last_of schema n last ≡ true) → AllRight (counter_changes (numbered n) last)
  counter_right n None right = refl
  counter_right n (Some last) right = alone (Counter (numbered n) last) right

  table_right : (n : ℕ) (layer : Layer) (stage : Stage) (b : Bool) → is_link schema n ≡ b → LayerFits n layer → AllRight (table_changes b stage (numbered n) layer)
  table_right n layer Removes true kind fits = refl
  table_right n layer Removes false kind fits = every_entry AllRight refl right_both Removes (numbered n) (FitsAs false schema n) (entry_right_model n Removes (inl refl)) layer.entries (subst (λ b. AllByRecursion (FitsAs b schema n) layer.entries) kind fits.0)
  table_right n layer Puts true kind fits = refl
  table_right n layer Puts false kind fits = every_entry AllRight refl right_both Puts (numbered n) (FitsAs false schema n) (entry_right_model n Puts (inr refl)) layer.entries (subst (λ b. AllByRecursion (FitsAs b schema n) layer.entries) kind fits.0)
  table_right n layer Unlinks true kind fits = every_entry AllRight refl right_both Unlinks (numbered n) (FitsAs true schema n) (entry_right_link n Unlinks (inl refl)) layer.entries (subst (λ b. AllByRecursion (FitsAs b schema n) layer.entries) kind fits.0)
  table_right n layer Unlinks false kind fits = refl
  table_right n layer Links true kind fits = every_entry AllRight refl right_both Links (numbered n) (FitsAs true schema n) (entry_right_link n Links (inr refl)) layer.entries (subst (λ b. AllByRecursion (FitsAs b schema n) layer.entries) kind fits.0)
  table_right n layer Links false kind fits = refl
  table_right n layer Counters b kind fits = counter_right n layer.last fits.1

  stage_right : (layers : List Layer) → LayersFit schema (layers_in layers) → (stage : Stage) → AllRight (stage_changes schema stage layers)
  stage_right layers fit stage =
      every_from AllRight refl right_both schema stage LayerFits (λ n layer fits. table_right n layer stage (is_link schema n) refl fits) 0 layers
      (λ k. subst (λ m. LayerFits m (layers_in layers k)) (let same : k ≡ 0 + k = omega arith in same) (fit.entries k, fit.counters k))

-- ---- the changes stand in their stages

place : Stage → ℕ
place Removes = 0
place Puts = 1
place Unlinks = 2
place Links = 3
place Counters = 4

abbrev AllAt : ℕ → List Change → Type 0
AllAt n changes = AllByRecursion (λ c. stage_of c ≡ n) changes

at_both : (n : ℕ) (xs ys : List Change) → AllAt n xs → AllAt n ys → AllAt n (xs ++ ys)
at_both n [] ys all others = others
at_both n (x ∷ xs) ys all others = (all.0, at_both n xs ys all.1 others)

entry_at_place : (stage : Stage) (n : ℕ) (id : Row) (now : Option Row) → AllAt (place stage) (entry_changes stage (numbered n) id now)
unfolding place
entry_at_place Removes n id now = (refl, tt)
entry_at_place Puts n id None = tt
entry_at_place Puts n id (Some row) = (refl, tt)
entry_at_place Unlinks n id now = (refl, tt)
entry_at_place Links n id None = tt
entry_at_place Links n id (Some row) = (refl, tt)
entry_at_place Counters n id now = tt

entries_at_place : (stage : Stage) (n : ℕ) (entries : List Entry) → AllAt (place stage) (all_entries stage (numbered n) entries)
entries_at_place stage n entries = every_entry (AllAt (place stage)) tt (at_both (place stage)) stage (numbered n) (λ e. Unit {0}) (λ e u. entry_at_place stage n e.0 e.1) entries (units entries)

counter_at_place : (n : ℕ) (last : Option ℤ) → AllAt 4 (counter_changes (numbered n) last)
counter_at_place n None = tt
counter_at_place n (Some last) = (refl, tt)

table_at_place : (stage : Stage) (n : ℕ) (b : Bool) (layer : Layer) → AllAt (place stage) (table_changes b stage (numbered n) layer)
unfolding place
table_at_place Removes n true layer = tt
table_at_place Removes n false layer = entries_at_place Removes n layer.entries
table_at_place Puts n true layer = tt
table_at_place Puts n false layer = entries_at_place Puts n layer.entries
table_at_place Unlinks n true layer = entries_at_place Unlinks n layer.entries
table_at_place Unlinks n false layer = tt
table_at_place Links n true layer = entries_at_place Links n layer.entries
table_at_place Links n false layer = tt
table_at_place Counters n b layer = counter_at_place n layer.last

stage_at_place : (schema : Schema) (stage : Stage) (layers : List Layer) → AllAt (place stage) (stage_changes schema stage layers)
stage_at_place schema stage layers = every_from (AllAt (place stage)) tt (at_both (place stage)) schema stage (λ n layer. Unit {0}) (λ n layer u. table_at_place stage n (is_link schema n) layer) 0 layers (λ k. tt)

le_less : (n m : ℕ) → nat_le (suc n) m ≡ true → nat_le n m ≡ true
le_less n m is = le-leb n m (less_too (leb-true (suc n) m is))
  where
    less_too : suc n ≤ m → n ≤ m
    less_too more = omega arith

later_stage : (n : ℕ) (changes : List Change) → in_stages (suc n) changes ≡ true → in_stages n changes ≡ true
later_stage n [] is = refl
later_stage n (c ∷ changes) is =
    let parts = and_parts (nat_le (suc n) (stage_of c)) (in_stages (stage_of c) changes) is in
    both (nat_le n (stage_of c)) (in_stages (stage_of c) changes) (le_less n (stage_of c) parts.0) parts.1

joined : (n : ℕ) → nat_le n n ≡ true → (xs ys : List Change) → AllAt n xs → in_stages n ys ≡ true → in_stages n (xs ++ ys) ≡ true
joined n same [] ys all is = is
joined n same (x ∷ xs) ys all is =
    both (nat_le n (stage_of x)) (in_stages (stage_of x) (xs ++ ys)) (ap (nat_le n) all.0 ∙ same) (ap (λ m. in_stages m (xs ++ ys)) all.0 ∙ joined n same xs ys all.1 is)

append_nothing : (xs : List Change) → xs ++ [] ≡ xs
append_nothing [] = refl
append_nothing (x ∷ xs) = ap (λ l. x ∷ l) (append_nothing xs)

staged : (schema : Schema) (layers : List Layer) → in_stages 0 (settled_by schema layers) ≡ true
unfolding place
staged schema layers =
    let removes = stage_changes schema Removes layers in
    let puts = stage_changes schema Puts layers in
    let unlinks = stage_changes schema Unlinks layers in
    let links = stage_changes schema Links layers in
    let counters = stage_changes schema Counters layers in
    let last : in_stages 4 counters ≡ true = ap (in_stages 4) (sym (append_nothing counters)) ∙ joined 4 refl counters [] (stage_at_place schema Counters layers) refl in
    let fourth : in_stages 3 (links ++ counters) ≡ true = joined 3 refl links counters (stage_at_place schema Links layers) (later_stage 3 counters last) in
    let third : in_stages 2 (unlinks ++ (links ++ counters)) ≡ true = joined 2 refl unlinks (links ++ counters) (stage_at_place schema Unlinks layers) (later_stage 2 (links ++ counters) fourth) in
    let second : in_stages 1 (puts ++ (unlinks ++ (links ++ counters))) ≡ true = joined 1 refl puts (unlinks ++ (links ++ counters)) (stage_at_place schema Puts layers) (later_stage 1 (unlinks ++ (links ++ counters)) third) in
    joined 0 refl removes (puts ++ (unlinks ++ (links ++ counters))) (stage_at_place schema Removes layers) (later_stage 0 (puts ++ (unlinks ++ (links ++ counters))) second)

all_right : (schema : Schema) (layers : List Layer) → LayersFit schema (layers_in layers) → are_right schema (settled_by schema layers) ≡ true
all_right schema layers fit =
    let removes = stage_changes schema Removes layers in
    let puts = stage_changes schema Puts layers in
    let unlinks = stage_changes schema Unlinks layers in
    let links = stage_changes schema Links layers in
    let counters = stage_changes schema Counters layers in
    both (list_all (is_right schema) (settled_by schema layers)) (in_stages 0 (settled_by schema layers))
    (right_both schema removes (puts ++ (unlinks ++ (links ++ counters))) (stage_right schema layers fit Removes)
    (right_both schema puts (unlinks ++ (links ++ counters)) (stage_right schema layers fit Puts)
    (right_both schema unlinks (links ++ counters) (stage_right schema layers fit Unlinks)
    (right_both schema links counters (stage_right schema layers fit Links) (stage_right schema layers fit Counters)))))
    (staged schema layers)

-- ---- each put is to a free id

row_found : (table : Table) (q : Row) (rows : List Row) → row_at table q.values rows ≡ at q (keyed table rows)
row_found table q [] = refl
row_found table q (row ∷ rows) = λ i. cond ((same_as_rows (id_row table row) q ∙ same_back row_cmp_total (id_row table row) q) i) (Some row) (row_found table q rows i)

abbrev FreeIds : Table → List Entry → List Row → Type 0
FreeIds table entries rows = (q : Row) → is_some (at q entries) ≡ true → at q (keyed table rows) ≡ None

some_or : (b : Bool) (x : Option Row) (o : Option (Option Row)) → is_some o ≡ true → is_some (cond b (Some x) o) ≡ true
some_or true x o is = refl
some_or false x o is = is

not_that : (b : Bool) (row : Row) (o : Option (Option Row)) (below : Option Row) → (b ≡ true → o ≡ None) → is_some o ≡ true → below ≡ None → cond b (Some row) below ≡ None
not_that true row o below none is empty = absurd (let h : false ≡ true = sym (ap is_some (none refl)) ∙ is in true≢false (sym h))
not_that false row o below none is empty = empty

found_here : (b : Bool) (x : Option Row) (o : Option (Option Row)) → b ≡ true → is_some (cond b (Some x) o) ≡ true
found_here b x o is = ap (λ b. is_some (cond b (Some x) o)) is

free-append : (schema : Schema) (xs ys : List Change) (tables : Tables) → AreFree schema xs tables → AreFree schema ys (after_all schema xs tables) → AreFree schema (xs ++ ys) tables
free-append schema [] ys tables free others = others
free-append schema (x ∷ xs) ys tables free others = (free.0, free-append schema xs ys (after schema x tables) free.1 others)

free_entries : (schema : Schema) (t : ℕ) (entries : List Entry) (tables : Tables) → SortedEntries entries → OwnIds (table_at schema t) entries → Sorted (table_at schema t) (tables.rows t) → FreeIds (table_at schema t) entries (tables.rows t)
    → AreFree schema (all_entries Puts (numbered t) entries) tables
free_entries schema t [] tables sorted own below free = tt
free_entries schema t (e ∷ entries) tables sorted own below free =
    by_now e.1 own.0 (λ tables below free. free_entries schema t entries tables (tail_sorted e entries sorted) own.1 below free)
  where
    table : Table
    table = table_at schema t

    later_free : (q : Row) → is_some (at q entries) ≡ true → at q (keyed (table_at schema t) (tables.rows t)) ≡ None
    later_free q is = free q (some_or (is_eq (row_cmp q e.0)) e.1 (at q entries) is)

    by_now : (now : Option Row) → IfSome now (λ row. id_of (table_at schema t) row ≡ e.0.values)
        → ((tables : Tables) → Sorted (table_at schema t) (tables.rows t) → FreeIds (table_at schema t) entries (tables.rows t) → AreFree schema (all_entries Puts (numbered t) entries) tables)
        → AreFree schema (entry_changes Puts (numbered t) e.0 now ++ all_entries Puts (numbered t) entries) tables
    by_now None own later = later tables below later_free
    by_now (Some row) own later =
        let now_rows : (after schema (Put (numbered t) row) tables).rows t ≡ put_among (table_at schema t) row (tables.rows t) = ap (λ b. cond b (put_among (table_at schema t) row (tables.rows t)) (tables.rows t)) (itself t) in (
          row_found (table_at schema t) (id_row (table_at schema t) row) (tables.rows t)
              ∙ ap (λ q. at q (keyed (table_at schema t) (tables.rows t))) (own_key (table_at schema t) e.0 row own)
              ∙ free e.0 (found_here (is_eq (row_cmp e.0 e.0)) e.1 (at e.0 entries) (ap is_eq (equal_itself row_cmp_total e.0 row))),
          later (after schema (Put (numbered t) row) tables)
              (subst (Sorted (table_at schema t)) (sym now_rows) (sorted-put_among (table_at schema t) row (tables.rows t) below))
              (λ q is.
              ap (λ rows. at q (keyed (table_at schema t) rows)) now_rows
              ∙ found-put_among (table_at schema t) row (tables.rows t) q below
              ∙ (λ i. cond (is_eq (row_cmp q (own_key (table_at schema t) e.0 row own i))) (Some row) (at q (keyed (table_at schema t) (tables.rows t))))
              ∙ not_that (is_eq (row_cmp q e.0)) row (at q entries) (at q (keyed (table_at schema t) (tables.rows t))) (λ s. behind e entries q sorted s) is (later_free q is)),
        )

abbrev FreeAt : Schema → Tables → ℕ → Layer → Type 0
FreeAt schema tables t layer = is_link schema t ≡ false → SortedEntries layer.entries × OwnIds (table_at schema t) layer.entries × Sorted (table_at schema t) (tables.rows t) × FreeIds (table_at schema t) layer.entries (tables.rows t)

free_table : (schema : Schema) (t : ℕ) (layer : Layer) (tables : Tables) (b : Bool) → is_link schema t ≡ b → FreeAt schema tables t layer → AreFree schema (table_changes b Puts (numbered t) layer) tables
free_table schema t layer tables true kind free = tt
free_table schema t layer tables false kind free = let all = free kind in free_entries schema t layer.entries tables all.0 all.1 all.2 all.3

not_first : (n k : ℕ) → suc n + k ≡ n → ⊥
not_first n k same = omega arith

free_from : (schema : Schema) (n : ℕ) (layers : List Layer) (tables : Tables) → ((k : ℕ) → FreeAt schema tables (n + k) (layers_in layers k)) → AreFree schema (stage_from schema Puts n layers) tables
free_from schema n [] tables free = tt
free_from schema n (layer ∷ layers) tables free =
    let chunk = table_changes (is_link schema n) Puts (numbered n) layer in
    free-append schema chunk (stage_from schema Puts (suc n) layers) tables
    (free_table schema n layer tables (is_link schema n) refl (subst (λ m. FreeAt schema tables m layer) (let first : n + 0 ≡ n = omega arith in first) (free 0)))
    (free_from schema (suc n) layers (after_all schema chunk tables)
    (λ k model.
    let there = subst (λ m. FreeAt schema tables m (layers_in layers k)) (let next : n + suc k ≡ suc n + k = omega arith in next) (free (suc k)) model in
    let same : (after_all schema chunk tables).rows (suc n + k) ≡ tables.rows (suc n + k) =
    after_rows schema chunk (suc n + k) tables
    ∙ table_still (rows_step schema) rows_idle (rows_still schema) (suc n + k) n Puts (inl (ne_eqb (suc n + k) n (not_first n k))) (is_link schema n) layer (tables.rows (suc n + k)) in
    (there.0, there.1, subst (Sorted (table_at schema (suc n + k))) (sym same) there.2, subst (FreeIds (table_at schema (suc n + k)) (layers_in layers k).entries) (sym same) there.3)))

-- ---- other stages ask for nothing

abbrev Asks : Schema → List Change → Type 0
Asks schema changes = (tables : Tables) → AreFree schema changes tables

free_both : (schema : Schema) (xs ys : List Change) → Asks schema xs → Asks schema ys → Asks schema (xs ++ ys)
free_both schema xs ys x y tables = free-append schema xs ys tables (x tables) (y (after_all schema xs tables))

asks_nothing : Stage → Bool
asks_nothing Removes = true
asks_nothing Puts = false
asks_nothing Unlinks = true
asks_nothing Links = true
asks_nothing Counters = true

entry_free : (schema : Schema) (n : ℕ) (stage : Stage) → asks_nothing stage ≡ true → (id : Row) (now : Option Row) → Asks schema (entry_changes stage (numbered n) id now)
unfolding asks_nothing
entry_free schema n Removes is id now tables = (tt, tt)
entry_free schema n Puts is id now tables = absurd cc
entry_free schema n Unlinks is id now tables = (tt, tt)
entry_free schema n Links is id None tables = tt
entry_free schema n Links is id (Some row) tables = (tt, tt)
entry_free schema n Counters is id now tables = tt

entries_free : (schema : Schema) (n : ℕ) (stage : Stage) → asks_nothing stage ≡ true → (entries : List Entry) → Asks schema (all_entries stage (numbered n) entries)
entries_free schema n stage is entries = every_entry (Asks schema) (λ tables. tt) (free_both schema) stage (numbered n) (λ e. Unit {0}) (λ e u. entry_free schema n stage is e.0 e.1) entries (units entries)

counter_free : (schema : Schema) (n : ℕ) (last : Option ℤ) → Asks schema (counter_changes (numbered n) last)
counter_free schema n None tables = tt
counter_free schema n (Some last) tables = (tt, tt)

table_free : (schema : Schema) (n : ℕ) (stage : Stage) → asks_nothing stage ≡ true → (b : Bool) (layer : Layer) → Asks schema (table_changes b stage (numbered n) layer)
unfolding asks_nothing
table_free schema n Removes is true layer tables = tt
table_free schema n Removes is false layer tables = entries_free schema n Removes is layer.entries tables
table_free schema n Puts is b layer tables = absurd cc
table_free schema n Unlinks is true layer tables = entries_free schema n Unlinks is layer.entries tables
table_free schema n Unlinks is false layer tables = tt
table_free schema n Links is true layer tables = entries_free schema n Links is layer.entries tables
table_free schema n Links is false layer tables = tt
table_free schema n Counters is b layer tables = counter_free schema n layer.last tables

stage_free : (schema : Schema) (stage : Stage) → asks_nothing stage ≡ true → (layers : List Layer) → Asks schema (stage_changes schema stage layers)
stage_free schema stage is layers = every_from (Asks schema) (λ tables. tt) (free_both schema) schema stage (λ n layer. Unit {0}) (λ n layer u. table_free schema n stage is (is_link schema n) layer) 0 layers (λ k. tt)

-- of the ids that are entered no row is left below
gone : (o : Option (Option Row)) (below : Option Row) → is_some o ≡ true → cond (not (is_some o)) below None ≡ None
gone None below is = absurd (true≢false (sym is))
gone (Some now) below is = refl

module _ (schema : Schema) (layers : List Layer) (fit : LayersFit schema (layers_in layers)) (tables : Tables) (below : FitsSchema schema tables) where
  without_entered : (t : ℕ) → is_link schema t ≡ false → (after_all schema (stage_changes schema Removes layers) tables).rows t ≡ untouched (table_at schema t) (layers_in layers t).entries (tables.rows t)
  without_entered t model =
      after_rows schema (stage_changes schema Removes layers) t tables
      ∙ stage_here (rows_step schema) rows_idle (rows_still schema) schema layers t Removes (tables.rows t)
      ∙ ap (λ b. followed (rows_step schema t) (table_changes b Removes (numbered t) (layers_in layers t)) (tables.rows t)) model
      ∙ removes_rows schema t (layers_in layers t).entries (tables.rows t)
      ∙ removed_is (table_at schema t) (layers_in layers t).entries (tables.rows t)

  put_free : (t : ℕ) → FreeAt schema (after_all schema (stage_changes schema Removes layers) tables) t (layers_in layers t)
  put_free t model =
      let entries = (layers_in layers t).entries in
      let table = table_at schema t in
      let sorted : Sorted table (untouched table entries (tables.rows t)) = sorted-untouched table entries (tables.rows t) (sorted_from table (tables.rows t) (below.order t)) in
      let free : FreeIds table entries (untouched table entries (tables.rows t)) = λ q is. found-untouched table entries (tables.rows t) q ∙ gone (at q entries) (at q (keyed table (tables.rows t))) is in
      (fit.order t, entries_own schema (layers_in layers) fit t model, subst (Sorted table) (sym (without_entered t model)) sorted, subst (FreeIds table entries) (sym (without_entered t model)) free)

  all_free : AreFree schema (settled_by schema layers) tables
  unfolding asks_nothing
  all_free =
      let removes = stage_changes schema Removes layers in
      let puts = stage_changes schema Puts layers in
      let unlinks = stage_changes schema Unlinks layers in
      let links = stage_changes schema Links layers in
      let counters = stage_changes schema Counters layers in
      let after_removes = after_all schema removes tables in
      free-append schema removes (puts ++ (unlinks ++ (links ++ counters))) tables (stage_free schema Removes refl layers tables)
      (free-append schema puts (unlinks ++ (links ++ counters)) after_removes
      (free_from schema 0 layers after_removes (λ k. subst (λ m. FreeAt schema after_removes m (layers_in layers k)) (let same : k ≡ 0 + k = omega arith in same) (put_free k)))
      (free_both schema unlinks (links ++ counters) (stage_free schema Unlinks refl layers) (free_both schema links counters (stage_free schema Links refl layers) (stage_free schema Counters refl layers)) (after_all schema puts after_removes)))

-- the changes of the layers make of the tables below those that are seen
pub settles : (schema : Schema) (layers : List Layer) → SettlesBelow schema (layers_in layers) (settled_by schema layers)
settles schema layers sound fit = (all_right schema layers fit, λ tables below. (after_seen schema sound layers fit tables below, all_free schema layers fit tables below))

-- ---- the layers of the tables that the schema has

same_first : (n t : ℕ) (layers : List Layer) → (n ≤ t → layers_in layers t ≡ no_layer) → layers_in (take n layers) t ≡ layers_in layers t
same_first zero t layers none = sym (none (let least : 0 ≤ t = omega arith in least))
same_first (suc n) t [] none = refl
same_first (suc n) zero (layer ∷ layers) none = refl
same_first (suc n) (suc t) (layer ∷ layers) none = same_first n t layers (λ least. none (one_more n t least))
  where
    one_more : (n t : ℕ) → n ≤ t → suc n ≤ suc t
    one_more n t least = omega arith

module _ (schema : Schema) (t : ℕ) (past : length schema.tables ≤ t) where
  no_link : is_link schema t ≡ false
  no_link = ap is_link_table (slice_get_past schema.tables t past)

  no_model : is_model schema t ≡ true → ⊥
  no_model model = true≢false (sym model ∙ ap is_model_table (slice_get_past schema.tables t past))

  no_entries : (entries : List Entry) → AllByRecursion (FitsEntry schema t) entries → entries ≡ []
  no_entries [] all = refl
  no_entries (e ∷ entries) all = absurd (no_model (and_parts (is_model schema t) _ (subst (λ b. FitsAs b schema t e) no_link all.0).0).0)

  no_last : (last : Option ℤ) → IfSome last (λ last. is_last_of schema t last ≡ true) → last ≡ None
  no_last None right = refl
  no_last (Some last) right = absurd (no_model (and_parts (is_model schema t) _ right).0)

  nothing_past : (layers : Layers) → LayersFit schema layers → layers t ≡ no_layer
  nothing_past layers fit = λ i. record { entries = no_entries (layers t).entries (fit.entries t) i; last = no_last (layers t).last (fit.counters t) i }

layer_past : (schema : Schema) (layers : List Layer) (n t : ℕ) → LayersFit schema (layers_in layers) → (n < length layers → length schema.tables ≤ n) → n ≤ t → layers_in layers t ≡ no_layer
layer_past schema layers n t fit most least = by_found (slice_get layers t) refl
  where
    past : t < length layers → (n < length layers → length schema.tables ≤ n) → length schema.tables ≤ t
    past within most = let there : n < length layers = omega arith in let beyond_it : length schema.tables ≤ n = most there in omega arith

    by_found : (found : Option Layer) → slice_get layers t ≡ found → layers_in layers t ≡ no_layer
    by_found None is = ap (λ (o : Option Layer). unwrap_or o no_layer) is
    by_found (Some layer) is = nothing_past schema t (past (slice_get_within layers t layer is) most) (layers_in layers) fit

-- so do the changes of as many layers as the schema has tables
pub settles_taken : (schema : Schema) (layers : List Layer) (n : ℕ) → (n < length layers → length schema.tables ≤ n) → SettlesBelow schema (layers_in layers) (settled_by schema (take n layers))
settles_taken schema layers n most sound fit =
    let same : layers_in (take n layers) ≡ layers_in layers = λ i t. same_first n t layers (λ least. layer_past schema layers n t fit most least) i in
    subst (λ (l : Layers). LayersFit schema l → (are_right schema (settled_by schema (take n layers)) ≡ true) × ((tables : Tables) → FitsSchema schema tables → (after_all schema (settled_by schema (take n layers)) tables ≡ seen schema l tables) × AreFree schema (settled_by schema (take n layers)) tables))
    same (settles schema (take n layers) sound) fit

-- ---- of nothing there are no changes

nothing_of : (b : Bool) (stage : Stage) (table : TableId) → table_changes b stage table no_layer ≡ []
nothing_of true Removes table = refl
nothing_of true Puts table = refl
nothing_of true Unlinks table = refl
nothing_of true Links table = refl
nothing_of true Counters table = refl
nothing_of false Removes table = refl
nothing_of false Puts table = refl
nothing_of false Unlinks table = refl
nothing_of false Links table = refl
nothing_of false Counters table = refl

nothing_from : (schema : Schema) (stage : Stage) (n : ℕ) (layers : List Layer) → ((t : ℕ) → layers_in layers t ≡ no_layer) → stage_from schema stage n layers ≡ []
nothing_from schema stage n [] none = refl
nothing_from schema stage n (layer ∷ layers) none =
    ap (λ (l : Layer). table_changes (is_link schema n) stage (numbered n) l ++ stage_from schema stage (suc n) layers) (none 0)
    ∙ ap (λ l. l ++ stage_from schema stage (suc n) layers) (nothing_of (is_link schema n) stage (numbered n))
    ∙ nothing_from schema stage (suc n) layers (λ t. none (suc t))

nothing_taken : (n : ℕ) (layers : List Layer) → ((t : ℕ) → layers_in layers t ≡ no_layer) → (t : ℕ) → layers_in (take n layers) t ≡ no_layer
nothing_taken zero layers none t = refl
nothing_taken (suc n) [] none t = refl
nothing_taken (suc n) (layer ∷ layers) none zero = none 0
nothing_taken (suc n) (layer ∷ layers) none (suc t) = nothing_taken n layers (λ t. none (suc t)) t

pub nothing_settled : (schema : Schema) (n : ℕ) (layers : List Layer) → layers_in layers ≡ no_layers → settled_by schema (take n layers) ≡ []
nothing_settled schema n layers none =
    let stage = λ (s : Stage). nothing_from schema s 0 (take n layers) (nothing_taken n layers (λ t. ap (λ (l : Layers). l t) none)) in
    λ i. stage Removes i ++ (stage Puts i ++ (stage Unlinks i ++ (stage Links i ++ stage Counters i)))

-- the stages, one after another
pub joined_stages : (r p u l c one two three four five : List Change) → one ≡ [] ++ r → two ≡ one ++ p → three ≡ two ++ u → four ≡ three ++ l → five ≡ four ++ c → five ≡ r ++ (p ++ (u ++ (l ++ c)))
joined_stages r p u l c one two three four five first second third fourth fifth =
    fifth ∙ ap (λ x. x ++ c) (fourth ∙ ap (λ x. x ++ l) (third ∙ ap (λ x. x ++ u) (second ∙ ap (λ x. x ++ p) first)))
    ∙ append_assoc ((r ++ p) ++ u) l c ∙ append_assoc (r ++ p) u (l ++ c) ∙ append_assoc r p (u ++ (l ++ c))

-- what holds of a value holds where the result is that value
pub if_same : {T E : Type 0} (result : Result T E) (x : T) (P : T → Type 0) → IfOk result (λ y. y ≡ x) → P x → IfOk result P
if_same (Ok y) x P is holds = subst P (sym is) holds
if_same (Err e) x P is holds = tt
