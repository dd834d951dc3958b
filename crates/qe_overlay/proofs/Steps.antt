-- Changes one after another, table by table and stage by stage.
use Rattle.std.proofs.Common.{◌≡◌, ◌<◌, ◌+◌, ◌⊎◌, inl, inr, ℕ, zero, suc, ℤ, List, [], ◌∷◌, ◌++◌, Option, Some, None, Bool, true, false, cond, refl, sym, ap, subst, ◌∙◌, arith}
use Rattle.std.specs.Prelude.{◌==◌}
use Rattle.std.specs.Int.{int_max}
use Rattle.std.specs.List.{AllByRecursion}
use Rattle.std.proofs.lemmas.Bool.{eqb-true, ne_eqb}
use Rattle.qe_base.specs.declared.value.Row.{Row}
use Rattle.qe_base.specs.declared.value.TableId.{TableId}
use Rattle.qe_base.specs.declared.value.Value.{Value}
use Rattle.qe_base.specs.Schemas.{Schema}
use Rattle.qe_schema.specs.Pairs.{with_pair, without_pair}
use Rattle.qe_schema.specs.Put.{put_among}
use Rattle.qe_schema.specs.Tables.{Tables, table_at, is_link}
use Rattle.qe_view.specs.After.{after, after_all, without_id}
use Rattle.qe_view.specs.declared.changes.Change.{Change}
use Rattle.qe_view.specs.declared.changes.Change.TheVariants.{Remove, Put, Unlink, Link, Counter}
use Rattle.qe_overlay.specs.Held.{layers_in}
use Rattle.qe_overlay.specs.Layers.{Entry, Layer, no_layer}
use Rattle.qe_overlay.specs.Settled.{numbered, entry_changes, all_entries, counter_changes, table_changes, stage_from, stage_changes, settled_by}
use Rattle.qe_overlay.specs.declared.changes.Stage.{Stage}
use Rattle.qe_overlay.specs.declared.changes.Stage.TheVariants.{Removes, Puts, Unlinks, Links, Counters}

-- ---- what holds of no changes, and of two lists together, holds of all

pub units : (entries : List Entry) → AllByRecursion (λ e. Unit {0}) entries
units [] = tt
units (e ∷ entries) = (tt, units entries)

module _ (F : List Change → Type 0) (none : F []) (both : (xs ys : List Change) → F xs → F ys → F (xs ++ ys)) where
  pub every_entry : (stage : Stage) (table : TableId) (P : Entry → Type 0) → ((e : Entry) → P e → F (entry_changes stage table e.0 e.1)) → (entries : List Entry) → AllByRecursion P entries → F (all_entries stage table entries)
  every_entry stage table P each [] all = none
  every_entry stage table P each (e ∷ entries) all = both (entry_changes stage table e.0 e.1) (all_entries stage table entries) (each e all.0) (every_entry stage table P each entries all.1)

  pub every_from : (schema : Schema) (stage : Stage) (P : ℕ → Layer → Type 0) → ((n : ℕ) (layer : Layer) → P n layer → F (table_changes (is_link schema n) stage (numbered n) layer))
      → (n : ℕ) (layers : List Layer) → ((k : ℕ) → P (n + k) (layers_in layers k)) → F (stage_from schema stage n layers)
  every_from schema stage P each n [] all = none
  every_from schema stage P each n (layer ∷ layers) all =
      both (table_changes (is_link schema n) stage (numbered n) layer) (stage_from schema stage (suc n) layers)
      (each n layer (subst (λ m. P m layer) (let first : n + 0 ≡ n = omega arith in first) (all 0)))
      (every_from schema stage P each (suc n) layers (λ k. subst (λ m. P m (layers_in layers k)) (let next : n + suc k ≡ suc n + k = omega arith in next) (all (suc k))))

-- ---- one step after another

abbrev pub followed : {A : Type 0} → (Change → A → A) → List Change → A → A
followed step [] a = a
followed step (change ∷ changes) a = followed step changes (step change a)

pub followed-append : {A : Type 0} (step : Change → A → A) (xs ys : List Change) (a : A) → followed step (xs ++ ys) a ≡ followed step ys (followed step xs a)
followed-append step [] ys a = refl
followed-append step (x ∷ xs) ys a = followed-append step xs ys (step x a)

apart : (t n : ℕ) → t < n → t ≡ n → ⊥
apart t n less same = omega arith

-- the changes of this stage are of other tables, or do nothing here
abbrev pub Idle : (Stage → Bool) → ℕ → ℕ → Stage → Type 0
Idle idle t n stage = (t == n ≡ false) ⊎ (idle stage ≡ true)

pub record Still {A : Type 0} (step : ℕ → Change → A → A) (idle : Stage → Bool) : Type 0 where
  pub entries : (t n : ℕ) (stage : Stage) → Idle idle t n stage → (id : Row) (now : Option Row) (a : A) → followed (step t) (entry_changes stage (numbered n) id now) a ≡ a
  pub counters : (t n : ℕ) → Idle idle t n Counters → (last : Option ℤ) (a : A) → followed (step t) (counter_changes (numbered n) last) a ≡ a

module _ {A : Type 0} (step : ℕ → Change → A → A) (idle : Stage → Bool) (still : Still step idle) where
  entries_still : (t n : ℕ) (stage : Stage) → Idle idle t n stage → (entries : List Entry) (a : A) → followed (step t) (all_entries stage (numbered n) entries) a ≡ a
  entries_still t n stage which entries =
      every_entry (λ xs. (a : A) → followed (step t) xs a ≡ a) (λ a. refl) (λ xs ys x y a. followed-append (step t) xs ys a ∙ ap (followed (step t) ys) (x a) ∙ y a)
      stage (numbered n) (λ e. Unit {0}) (λ e u. still.entries t n stage which e.0 e.1) entries (units entries)

  pub table_still : (t n : ℕ) (stage : Stage) → Idle idle t n stage → (b : Bool) (layer : Layer) (a : A) → followed (step t) (table_changes b stage (numbered n) layer) a ≡ a
  table_still t n Removes which true layer a = refl
  table_still t n Removes which false layer a = entries_still t n Removes which layer.entries a
  table_still t n Puts which true layer a = refl
  table_still t n Puts which false layer a = entries_still t n Puts which layer.entries a
  table_still t n Unlinks which true layer a = entries_still t n Unlinks which layer.entries a
  table_still t n Unlinks which false layer a = refl
  table_still t n Links which true layer a = entries_still t n Links which layer.entries a
  table_still t n Links which false layer a = refl
  table_still t n Counters which b layer a = still.counters t n which layer.last a

  none_still : (t n : ℕ) (stage : Stage) (b : Bool) (a : A) → followed (step t) (table_changes b stage (numbered n) no_layer) a ≡ a
  none_still t n Removes true a = refl
  none_still t n Removes false a = refl
  none_still t n Puts true a = refl
  none_still t n Puts false a = refl
  none_still t n Unlinks true a = refl
  none_still t n Unlinks false a = refl
  none_still t n Links true a = refl
  none_still t n Links false a = refl
  none_still t n Counters b a = refl

  pub beyond : (schema : Schema) (stage : Stage) (t n : ℕ) (layers : List Layer) (a : A) → t < n → followed (step t) (stage_from schema stage n layers) a ≡ a
  beyond schema stage t n [] a less = refl
  beyond schema stage t n (layer ∷ layers) a less =
      followed-append (step t) (table_changes (is_link schema n) stage (numbered n) layer) (stage_from schema stage (suc n) layers) a
      ∙ ap (followed (step t) (stage_from schema stage (suc n) layers)) (table_still t n stage (inl (ne_eqb t n (apart t n less))) (is_link schema n) layer a)
      ∙ beyond schema stage t (suc n) layers a (let more : t < suc n = omega arith in more)

  stage_at : (schema : Schema) (stage : Stage) (t n k : ℕ) (layers : List Layer) (a : A) → t ≡ n + k
      → followed (step t) (stage_from schema stage n layers) a ≡ followed (step t) (table_changes (is_link schema t) stage (numbered t) (layers_in layers k)) a
  stage_at schema stage t n k [] a is = sym (none_still t t stage (is_link schema t) a)
  stage_at schema stage t n zero (layer ∷ layers) a is =
      followed-append (step t) (table_changes (is_link schema n) stage (numbered n) layer) (stage_from schema stage (suc n) layers) a
      ∙ beyond schema stage t (suc n) layers (followed (step t) (table_changes (is_link schema n) stage (numbered n) layer) a) (let less : t < suc n = omega arith in less)
      ∙ ap (λ m. followed (step t) (table_changes (is_link schema m) stage (numbered m) layer) a) (let same : n ≡ t = omega arith in same)
  stage_at schema stage t n (suc k) (layer ∷ layers) a is =
      followed-append (step t) (table_changes (is_link schema n) stage (numbered n) layer) (stage_from schema stage (suc n) layers) a
      ∙ ap (followed (step t) (stage_from schema stage (suc n) layers)) (table_still t n stage (inl (ne_eqb t n (λ same. behind_it same))) (is_link schema n) layer a)
      ∙ stage_at schema stage t (suc n) k layers a (let next : t ≡ suc n + k = omega arith in next)
    where
      behind_it : t ≡ n → ⊥
      behind_it same = omega arith

  -- the changes of one table and one stage
  abbrev pub here : Schema → List Layer → ℕ → Stage → A → A
  here schema layers t stage a = followed (step t) (table_changes (is_link schema t) stage (numbered t) (layers_in layers t)) a

  pub stage_here : (schema : Schema) (layers : List Layer) (t : ℕ) (stage : Stage) (a : A) → followed (step t) (stage_changes schema stage layers) a ≡ here schema layers t stage a
  stage_here schema layers t stage a = stage_at schema stage t 0 t layers a (let same : t ≡ 0 + t = omega arith in same)

  then_here : (schema : Schema) (layers : List Layer) (t : ℕ) (stage : Stage) (later : List Change) (a : A)
      → followed (step t) (stage_changes schema stage layers ++ later) a ≡ followed (step t) later (here schema layers t stage a)
  then_here schema layers t stage later a = followed-append (step t) (stage_changes schema stage layers) later a ∙ ap (followed (step t) later) (stage_here schema layers t stage a)

  -- all changes do to a table what those of its own layer do
  pub all_here : (schema : Schema) (layers : List Layer) (t : ℕ) (a : A)
      → followed (step t) (settled_by schema layers) a ≡ here schema layers t Counters (here schema layers t Links (here schema layers t Unlinks (here schema layers t Puts (here schema layers t Removes a))))
  all_here schema layers t a =
      then_here schema layers t Removes (stage_changes schema Puts layers ++ (stage_changes schema Unlinks layers ++ (stage_changes schema Links layers ++ stage_changes schema Counters layers))) a
      ∙ then_here schema layers t Puts (stage_changes schema Unlinks layers ++ (stage_changes schema Links layers ++ stage_changes schema Counters layers)) (here schema layers t Removes a)
      ∙ then_here schema layers t Unlinks (stage_changes schema Links layers ++ stage_changes schema Counters layers) (here schema layers t Puts (here schema layers t Removes a))
      ∙ then_here schema layers t Links (stage_changes schema Counters layers) (here schema layers t Unlinks (here schema layers t Puts (here schema layers t Removes a)))
      ∙ stage_here schema layers t Counters (here schema layers t Links (here schema layers t Unlinks (here schema layers t Puts (here schema layers t Removes a))))

-- ---- rows, pairs and counters of one table

abbrev pub rows_step : Schema → ℕ → Change → List Row → List Row
rows_step schema t (Remove table id) rows = cond (t == table.0) (without_id (table_at schema table.0) id.values rows) rows
rows_step schema t (Put table row) rows = cond (t == table.0) (put_among (table_at schema table.0) row rows) rows
rows_step schema t (Unlink table a b) rows = rows
rows_step schema t (Link table a b) rows = rows
rows_step schema t (Counter table last) rows = rows

abbrev pub pairs_step : ℕ → Change → List (Value × Value) → List (Value × Value)
pairs_step t (Remove table id) pairs = pairs
pairs_step t (Put table row) pairs = pairs
pairs_step t (Unlink table a b) pairs = cond (t == table.0) (without_pair (a, b) pairs) pairs
pairs_step t (Link table a b) pairs = cond (t == table.0) (with_pair (a, b) pairs) pairs
pairs_step t (Counter table last) pairs = pairs

abbrev pub last_step : ℕ → Change → ℤ → ℤ
last_step t (Remove table id) last = last
last_step t (Put table row) last = last
last_step t (Unlink table a b) last = last
last_step t (Link table a b) last = last
last_step t (Counter table raised) last = cond (t == table.0) (int_max raised last) last

abbrev pub rows_idle : Stage → Bool
rows_idle Removes = false
rows_idle Puts = false
rows_idle Unlinks = true
rows_idle Links = true
rows_idle Counters = true

abbrev pub pairs_idle : Stage → Bool
pairs_idle Removes = true
pairs_idle Puts = true
pairs_idle Unlinks = false
pairs_idle Links = false
pairs_idle Counters = true

abbrev pub last_idle : Stage → Bool
last_idle Removes = true
last_idle Puts = true
last_idle Unlinks = true
last_idle Links = true
last_idle Counters = false

pub rows_still : (schema : Schema) → Still (rows_step schema) rows_idle
rows_still schema = record { entries = by_stage; counters = by_last }
  where
    by_stage : (t n : ℕ) (stage : Stage) → Idle rows_idle t n stage → (id : Row) (now : Option Row) (a : List Row) → followed (rows_step schema t) (entry_changes stage (numbered n) id now) a ≡ a
    by_stage t n Removes (inl other) id now a = rw other refl
    by_stage t n Removes (inr idle) id now a = absurd cc
    by_stage t n Puts (inl other) id None a = refl
    by_stage t n Puts (inl other) id (Some row) a = rw other refl
    by_stage t n Puts (inr idle) id now a = absurd cc
    by_stage t n Unlinks which id now a = refl
    by_stage t n Links which id None a = refl
    by_stage t n Links which id (Some row) a = refl
    by_stage t n Counters which id now a = refl

    by_last : (t n : ℕ) → Idle rows_idle t n Counters → (last : Option ℤ) (a : List Row) → followed (rows_step schema t) (counter_changes (numbered n) last) a ≡ a
    by_last t n which None a = refl
    by_last t n which (Some last) a = refl

pub pairs_still : Still pairs_step pairs_idle
pairs_still = record { entries = by_stage; counters = by_last }
  where
    by_stage : (t n : ℕ) (stage : Stage) → Idle pairs_idle t n stage → (id : Row) (now : Option Row) (a : List (Value × Value)) → followed (pairs_step t) (entry_changes stage (numbered n) id now) a ≡ a
    by_stage t n Removes which id now a = refl
    by_stage t n Puts which id None a = refl
    by_stage t n Puts which id (Some row) a = refl
    by_stage t n Unlinks (inl other) id now a = rw other refl
    by_stage t n Unlinks (inr idle) id now a = absurd cc
    by_stage t n Links (inl other) id None a = refl
    by_stage t n Links (inl other) id (Some row) a = rw other refl
    by_stage t n Links (inr idle) id now a = absurd cc
    by_stage t n Counters which id now a = refl

    by_last : (t n : ℕ) → Idle pairs_idle t n Counters → (last : Option ℤ) (a : List (Value × Value)) → followed (pairs_step t) (counter_changes (numbered n) last) a ≡ a
    by_last t n which None a = refl
    by_last t n which (Some last) a = refl

pub last_still : Still last_step last_idle
last_still = record { entries = by_stage; counters = by_last }
  where
    by_stage : (t n : ℕ) (stage : Stage) → Idle last_idle t n stage → (id : Row) (now : Option Row) (a : ℤ) → followed (last_step t) (entry_changes stage (numbered n) id now) a ≡ a
    by_stage t n Removes which id now a = refl
    by_stage t n Puts which id None a = refl
    by_stage t n Puts which id (Some row) a = refl
    by_stage t n Unlinks which id now a = refl
    by_stage t n Links which id None a = refl
    by_stage t n Links which id (Some row) a = refl
    by_stage t n Counters which id now a = refl

    by_last : (t n : ℕ) → Idle last_idle t n Counters → (last : Option ℤ) (a : ℤ) → followed (last_step t) (counter_changes (numbered n) last) a ≡ a
    by_last t n which None a = refl
    by_last t n (inl other) (Some last) a = rw other refl
    by_last t n (inr idle) (Some last) a = absurd cc

-- ---- the tables after all changes, by their parts

same_table : {A : Type 0} (f : ℕ → A) (h : A → A) (t n : ℕ) (b : Bool) → t == n ≡ b → cond b (h (f n)) (f t) ≡ cond b (h (f t)) (f t)
same_table f h t n true is = ap (λ m. h (f m)) (sym (eqb-true t n is))
same_table f h t n false is = refl

one_rows : (schema : Schema) (c : Change) (t : ℕ) (tables : Tables) → (after schema c tables).rows t ≡ rows_step schema t c (tables.rows t)
one_rows schema (Remove table id) t tables = same_table tables.rows (without_id (table_at schema table.0) id.values) t table.0 (t == table.0) refl
one_rows schema (Put table row) t tables = same_table tables.rows (put_among (table_at schema table.0) row) t table.0 (t == table.0) refl
one_rows schema (Unlink table a b) t tables = refl
one_rows schema (Link table a b) t tables = refl
one_rows schema (Counter table last) t tables = refl

pub after_rows : (schema : Schema) (changes : List Change) (t : ℕ) (tables : Tables) → (after_all schema changes tables).rows t ≡ followed (rows_step schema t) changes (tables.rows t)
after_rows schema [] t tables = refl
after_rows schema (c ∷ changes) t tables = after_rows schema changes t (after schema c tables) ∙ ap (followed (rows_step schema t) changes) (one_rows schema c t tables)

one_pairs : (schema : Schema) (c : Change) (t : ℕ) (tables : Tables) → (after schema c tables).pairs t ≡ pairs_step t c (tables.pairs t)
one_pairs schema (Remove table id) t tables = refl
one_pairs schema (Put table row) t tables = refl
one_pairs schema (Unlink table a b) t tables = same_table tables.pairs (without_pair (a, b)) t table.0 (t == table.0) refl
one_pairs schema (Link table a b) t tables = same_table tables.pairs (with_pair (a, b)) t table.0 (t == table.0) refl
one_pairs schema (Counter table last) t tables = refl

pub after_pairs : (schema : Schema) (changes : List Change) (t : ℕ) (tables : Tables) → (after_all schema changes tables).pairs t ≡ followed (pairs_step t) changes (tables.pairs t)
after_pairs schema [] t tables = refl
after_pairs schema (c ∷ changes) t tables = after_pairs schema changes t (after schema c tables) ∙ ap (followed (pairs_step t) changes) (one_pairs schema c t tables)

one_last : (schema : Schema) (c : Change) (t : ℕ) (tables : Tables) → (after schema c tables).last t ≡ last_step t c (tables.last t)
one_last schema (Remove table id) t tables = refl
one_last schema (Put table row) t tables = refl
one_last schema (Unlink table a b) t tables = refl
one_last schema (Link table a b) t tables = refl
one_last schema (Counter table last) t tables = same_table tables.last (int_max last) t table.0 (t == table.0) refl

pub after_last : (schema : Schema) (changes : List Change) (t : ℕ) (tables : Tables) → (after_all schema changes tables).last t ≡ followed (last_step t) changes (tables.last t)
after_last schema [] t tables = refl
after_last schema (c ∷ changes) t tables = after_last schema changes t (after schema c tables) ∙ ap (followed (last_step t) changes) (one_last schema c t tables)
