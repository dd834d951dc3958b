-- Taking changes back.
use Rattle.std.proofs.Common.{◌≡◌, ◌≤◌, ◌<◌, ℕ, zero, suc, ℤ, List, [], ◌∷◌, ◌++◌, length, take, slice_get, slice_set, slice_index_or, true≢false, Option, Some, None, Bool, true, false, cond, refl, sym, ap, ◌∙◌, subst, Ordering, Less, Equal, Greater, is_eq, arith}
use Rattle.std.specs.Prelude.{unwrap_or, ◌==◌}
use Rattle.std.specs.List.{AllByRecursion}
use Rattle.std.specs.List.Sorted.{IsStrictlySortedBy}
use Rattle.std.specs.Map.{keys_of, lookup, remove_entry, set_value}
use Rattle.std.specs.Ordering.{match_ordering, ordering_reverse}
use Rattle.std.specs.Cmp.{IsTotalOrder}
use Rattle.std.specs.BTreeMap.{insert_entry, is_at}
use Rattle.std.proofs.lemmas.Bool.{eqb-true, eq-eqb}
use Rattle.std.proofs.lemmas.List.{append_assoc, take-append-le}
use Rattle.std.proofs.Math.Seq.{take-append_seam}
use Rattle.qe_base.specs.Values.{row_cmp}
use Rattle.qe_base.specs.ValueOrder.{row_cmp_total}
use Rattle.qe_base.specs.declared.value.Row.{Row}
use Rattle.qe_base.specs.declared.value.TableId.{TableId}
use Rattle.qe_overlay.specs.Layers.{Entry, Layer, Layers, no_layer}
use Rattle.qe_overlay.specs.Held.{Held, KeptLayers, layers_in, with_layer, entry_at, with_entry, with_raised, with_before, with_last, undone, all_undone, past_of, held_in, changed_to, entered, raised, HeldGoesBack}
use Rattle.qe_overlay.specs.declared.overlay.Undo.{Undo}
use Rattle.qe_overlay.specs.declared.overlay.Undo.TheVariants.{Entered, Raised}

-- ---- maps

module _ {K X : Type 0} {R : K → K → Ordering} (total : IsTotalOrder R) (k : K) (v : X) where
  equal_reversed : (o : Ordering) → o ≡ ordering_reverse o → o ≡ Equal
  equal_reversed Less is = cc
  equal_reversed Equal is = refl
  equal_reversed Greater is = cc

  pub equal_itself : R k k ≡ Equal
  equal_itself = equal_reversed (R k k) (total.antisymm k k)

  -- a key below all others isn't among them
  pub none_found : (es : List (K × X)) → AllByRecursion (λ y. R k y ≡ Less) (keys_of es) → lookup (is_at (R k)) es ≡ None
  none_found [] below = refl
  none_found (e ∷ es) below = rw below.0 (none_found es below.1)

  pub below_later : (y : K) (ys : List K) → R k y ≡ Less → AllByRecursion (λ z. R y z ≡ Less) ys → AllByRecursion (λ z. R k z ≡ Less) ys
  below_later y [] less above = tt
  below_later y (z ∷ ys) less above = (total.trans k y z less above.0, below_later y ys less above.1)

  abbrev restored : Option X → List (K × X) → List (K × X)
  restored None es = remove_entry (is_at (R k)) es
  restored (Some before) es = set_value (is_at (R k)) es before

  past_head : (o : Option X) (e : K × X) (es : List (K × X)) → R k e.0 ≡ Greater → restored o (e ∷ es) ≡ e ∷ restored o es
  past_head None e es is = rw is refl
  past_head (Some before) e es is = rw is refl

  restored_at : (o : Ordering) (e : K × X) (es : List (K × X)) → R k e.0 ≡ o → IsStrictlySortedBy R (keys_of (e ∷ es))
      → (IsStrictlySortedBy R (keys_of es) → restored (lookup (is_at (R k)) es) (insert_entry R es k v) ≡ es)
      → restored (cond (is_eq o) (Some e.1) (lookup (is_at (R k)) es)) (match_ordering o ((k, v) ∷ e ∷ es) ((e.0, v) ∷ es) (e ∷ insert_entry R es k v)) ≡ e ∷ es
  unfolding IsStrictlySortedBy
  restored_at Less e es is sorted later = rw (none_found es (below_later e.0 (keys_of es) is sorted.0), equal_itself) refl
  restored_at Equal e es is sorted later = rw is refl
  restored_at Greater e es is sorted later = past_head (lookup (is_at (R k)) es) e (insert_entry R es k v) is ∙ ap (λ l. e ∷ l) (later sorted.1)

  -- what stood under the key stands there again
  pub entry_restored : (es : List (K × X)) → IsStrictlySortedBy R (keys_of es) → restored (lookup (is_at (R k)) es) (insert_entry R es k v) ≡ es
  unfolding IsStrictlySortedBy
  entry_restored [] sorted = rw equal_itself refl
  entry_restored (e ∷ es) sorted = restored_at (R k e.0) e es refl sorted (entry_restored es)

pub set_value_none : {K X : Type 0} (test : K → Bool) (w : X) (es : List (K × X)) → lookup test es ≡ None → set_value test es w ≡ es
set_value_none test w [] none = refl
set_value_none test w (e ∷ es) none = by_test (test e.0) none (set_value_none test w es)
  where
    by_test : (b : Bool) → cond b (Some e.1) (lookup test es) ≡ None → (lookup test es ≡ None → set_value test es w ≡ es) → cond b ((e.0, w) ∷ es) (e ∷ set_value test es w) ≡ e ∷ es
    by_test true none later = absurd cc
    by_test false none later = ap (λ l. e ∷ l) (later none)

-- ---- layers

with_same : (before : Option (Option Row)) (id : Row) (now : Option Row) (layer : Layer) → with_before id before (with_entry id now layer) ≡ record layer { entries = restored row_cmp_total id now before (insert_entry row_cmp layer.entries id now) }
with_same None id now layer = refl
with_same (Some before) id now layer = refl

pub layer_restored : (id : Row) (now : Option Row) (layer : Layer) → IsStrictlySortedBy row_cmp (keys_of layer.entries) → with_before id (entry_at id layer) (with_entry id now layer) ≡ layer
layer_restored id now layer sorted =
    with_same (entry_at id layer) id now layer ∙ ap (λ (es : List Entry). record layer { entries = es }) (entry_restored row_cmp_total id now layer.entries sorted)

pub raise_restored : (last : ℤ) (layer : Layer) → with_last layer.last (with_raised last layer) ≡ layer
raise_restored last layer = refl

-- a layer that is changed and changed back
pub layers_restored : (table : ℕ) (layer : Layer) (layers : Layers) (back : Layer → Layer) → back layer ≡ layers table
    → with_layer table (back (with_layer table layer layers table)) (with_layer table layer layers) ≡ layers
layers_restored table layer layers back is = λ i t. at_one t i
  where
    here : with_layer table layer layers table ≡ layer
    here = rw (eq-eqb table table refl) refl

    by_number : (t : ℕ) (b : Bool) → t == table ≡ b → cond b (back (with_layer table layer layers table)) (cond b layer (layers t)) ≡ layers t
    by_number t true same = ap back here ∙ is ∙ ap layers (sym (eqb-true t table same))
    by_number t false same = refl

    at_one : (t : ℕ) → with_layer table (back (with_layer table layer layers table)) (with_layer table layer layers) t ≡ layers t
    at_one t = by_number t (t == table) refl

pub entered_undone : (table : TableId) (id : Row) (now : Option Row) (layers : Layers) → IsStrictlySortedBy row_cmp (keys_of (layers table.0).entries)
    → undone (Entered table id (entry_at id (layers table.0))) (with_layer table.0 (with_entry id now (layers table.0)) layers) ≡ layers
entered_undone table id now layers sorted =
    layers_restored table.0 (with_entry id now (layers table.0)) layers (with_before id (entry_at id (layers table.0))) (layer_restored id now (layers table.0) sorted)

pub raised_undone : (table : TableId) (last : ℤ) (layers : Layers)
    → undone (Raised table (layers table.0).last) (with_layer table.0 (with_raised last (layers table.0)) layers) ≡ layers
raised_undone table last layers =
    layers_restored table.0 (with_raised last (layers table.0)) layers (with_last (layers table.0).last) (raise_restored last (layers table.0))

unreached : (layers : List Layer) (t : ℕ) → unwrap_or (slice_get (layers ++ no_layer ∷ []) t) no_layer ≡ unwrap_or (slice_get layers t) no_layer
unreached [] zero = refl
unreached [] (suc t) = refl
unreached (layer ∷ layers) zero = refl
unreached (layer ∷ layers) (suc t) = unreached layers t

-- a layer in which nothing is entered changes nothing
pub layers_in-more : (layers : List Layer) → layers_in (layers ++ no_layer ∷ []) ≡ layers_in layers
layers_in-more layers = λ i t. unreached layers t i

-- ---- the log

pub length-past_of : (log : List Undo) (layers : Layers) → length (past_of log layers) ≡ length log
length-past_of [] layers = refl
length-past_of (undo ∷ log) layers = ap suc (length-past_of log layers)

all_undone-push : (log : List Undo) (undo : Undo) (layers : Layers) → all_undone (log ++ undo ∷ []) layers ≡ all_undone log (undone undo layers)
all_undone-push [] undo layers = refl
all_undone-push (first ∷ log) undo layers = ap (undone first) (all_undone-push log undo layers)

pub past_of-push : (log : List Undo) (undo : Undo) (layers : Layers) → past_of (log ++ undo ∷ []) layers ≡ past_of log (undone undo layers) ++ undone undo layers ∷ []
past_of-push [] undo layers = refl
past_of-push (first ∷ log) undo layers = λ i. undone first (all_undone-push log undo layers i) ∷ past_of-push log undo layers i

-- a change that is logged with what takes it back
pub change_logged : (log : List Undo) (undo : Undo) (layers changed : Layers) → undone undo changed ≡ layers
    → (let held : Held = record { layers = changed; past = past_of (log ++ undo ∷ []) changed } in held) ≡ record { layers = changed; past = past_of log layers ++ layers ∷ [] }
change_logged log undo layers changed is =
    ap (λ (past : List Layers). let held : Held = record { layers = changed; past = past } in held) (past_of-push log undo changed ∙ ap (λ (l : Layers). past_of log l ++ l ∷ []) is)

set_here : (layers : List Layer) (table : ℕ) (layer : Layer) → table < length layers → unwrap_or (slice_get (slice_set layers table layer) table) no_layer ≡ layer
set_here [] table layer within = absurd (omega arith)
set_here (first ∷ layers) zero layer within = refl
set_here (first ∷ layers) (suc table) layer within = set_here layers table layer (omega arith)

set_there : (layers : List Layer) (table : ℕ) (layer : Layer) (t : ℕ) → (t ≡ table → ⊥) → unwrap_or (slice_get (slice_set layers table layer) t) no_layer ≡ unwrap_or (slice_get layers t) no_layer
set_there [] table layer t other = refl
set_there (first ∷ layers) zero layer zero other = absurd (other refl)
set_there (first ∷ layers) zero layer (suc t) other = refl
set_there (first ∷ layers) (suc table) layer zero other = refl
set_there (first ∷ layers) (suc table) layer (suc t) other = set_there layers table layer t (λ is. other (ap suc is))

set_at : (layers : List Layer) (table : ℕ) (layer : Layer) (t : ℕ) → table < length layers → unwrap_or (slice_get (slice_set layers table layer) t) no_layer ≡ with_layer table layer (layers_in layers) t
set_at layers table layer t within = by_number (t == table) refl
  where
    by_number : (b : Bool) → t == table ≡ b → unwrap_or (slice_get (slice_set layers table layer) t) no_layer ≡ cond b layer (layers_in layers t)
    by_number true same = ap (λ n. unwrap_or (slice_get (slice_set layers table layer) n) no_layer) (eqb-true t table same) ∙ set_here layers table layer within
    by_number false same = set_there layers table layer t (λ is. true≢false (sym (eq-eqb t table is) ∙ same))

pub shown_layer : (layers : List Layer) (table : ℕ) (layer : Layer) → table < length layers → slice_index_or layers table layer ≡ layers_in layers table
shown_layer [] table layer within = absurd (omega arith)
shown_layer (first ∷ layers) zero layer within = refl
shown_layer (first ∷ layers) (suc table) layer within = shown_layer layers table layer (omega arith)

pub layers_in-set : (layers : List Layer) (table : ℕ) (layer : Layer) → table < length layers → layers_in (slice_set layers table layer) ≡ with_layer table layer (layers_in layers)
layers_in-set layers table layer within = λ i t. set_at layers table layer t within i

-- a layer that was written, and the log with what takes that back
pub written : (layers : List Layer) (log : List Undo) (table : ℕ) (layer : Layer) (undo : Undo) → table < length layers → undone undo (with_layer table layer (layers_in layers)) ≡ layers_in layers
    → held_in (record { layers = slice_set layers table layer; log = log ++ undo ∷ [] }) ≡ changed_to (with_layer table layer (layers_in layers)) (held_in (record { layers = layers; log = log }))
written layers log table layer undo within is =
    ap (λ (all : Layers). let held : Held = record { layers = all; past = past_of (log ++ undo ∷ []) all } in held) (layers_in-set layers table layer within)
    ∙ change_logged log undo (layers_in layers) (with_layer table layer (layers_in layers)) is

-- what a change of entries makes of what is held
pub entered_held : (start : KeptLayers) (layers : List Layer) (log reserved logged : List Undo) (table : TableId) (id under : Row) (now : Option Row) (before : Option (Option Row)) (shown changed : Layer)
    → held_in (record { layers = layers; log = log }) ≡ held_in start → table.0 < length layers → shown ≡ slice_index_or layers table.0 shown → IsStrictlySortedBy row_cmp (keys_of shown.entries)
    → under ≡ id → before ≡ entry_at id shown → changed ≡ with_entry id now shown → reserved ≡ log → logged ≡ reserved ++ Entered table under before ∷ []
    → held_in (record { layers = slice_set layers table.0 changed; log = logged }) ≡ entered table.0 id now (held_in start)
entered_held start layers log reserved logged table id under now before shown changed held within shows sorted under_is before_is changed_is reserved_is logged_is =
    let is : shown ≡ layers_in layers table.0 = shows ∙ shown_layer layers table.0 shown within in
    let ordered : IsStrictlySortedBy row_cmp (keys_of (layers_in layers table.0).entries) = subst (λ (l : Layer). IsStrictlySortedBy row_cmp (keys_of l.entries)) is sorted in
    let undo_is : Entered table under before ≡ Entered table id (entry_at id (layers_in layers table.0)) = λ i. Entered table (under_is i) ((before_is ∙ ap (entry_at id) is) i) in
    let layer_is : changed ≡ with_entry id now (layers_in layers table.0) = changed_is ∙ ap (with_entry id now) is in
    ap (λ (all : List Undo). held_in (record { layers = slice_set layers table.0 changed; log = all })) (logged_is ∙ (λ i. reserved_is i ++ undo_is i ∷ []))
    ∙ ap (λ (l : Layer). held_in (record { layers = slice_set layers table.0 l; log = log ++ Entered table id (entry_at id (layers_in layers table.0)) ∷ [] })) layer_is
    ∙ written layers log table.0 (with_entry id now (layers_in layers table.0)) (Entered table id (entry_at id (layers_in layers table.0))) within (entered_undone table id now (layers_in layers) ordered)
    ∙ ap (entered table.0 id now) held

pub raised_held : (start : KeptLayers) (layers : List Layer) (log reserved logged : List Undo) (table : TableId) (last : ℤ) (before : Option ℤ) (shown changed : Layer)
    → held_in (record { layers = layers; log = log }) ≡ held_in start → table.0 < length layers → shown ≡ slice_index_or layers table.0 shown
    → before ≡ shown.last → changed ≡ with_raised last shown → reserved ≡ log → logged ≡ reserved ++ Raised table before ∷ []
    → held_in (record { layers = slice_set layers table.0 changed; log = logged }) ≡ raised table.0 last (held_in start)
raised_held start layers log reserved logged table last before shown changed held within shows before_is changed_is reserved_is logged_is =
    let is : shown ≡ layers_in layers table.0 = shows ∙ shown_layer layers table.0 shown within in
    let undo_is : Raised table before ≡ Raised table (layers_in layers table.0).last = ap (Raised table) (before_is ∙ ap (λ (l : Layer). l.last) is) in
    let layer_is : changed ≡ with_raised last (layers_in layers table.0) = changed_is ∙ ap (with_raised last) is in
    ap (λ (all : List Undo). held_in (record { layers = slice_set layers table.0 changed; log = all })) (logged_is ∙ (λ i. reserved_is i ++ undo_is i ∷ []))
    ∙ ap (λ (l : Layer). held_in (record { layers = slice_set layers table.0 l; log = log ++ Raised table (layers_in layers table.0).last ∷ [] })) layer_is
    ∙ written layers log table.0 (with_raised last (layers_in layers table.0)) (Raised table (layers_in layers table.0).last) within (raised_undone table last (layers_in layers))
    ∙ ap (raised table.0 last) held

-- ---- going back

-- what was held before the last of the changes
pub popped : (layers : List Layer) (log rest : List Undo) (undo : Undo) (back : List Layer) → log ≡ rest ++ undo ∷ [] → layers_in back ≡ undone undo (layers_in layers)
    → past_of log (layers_in layers) ≡ past_of rest (layers_in back) ++ layers_in back ∷ []
popped layers log rest undo back log_is back_is =
    ap (λ (all : List Undo). past_of all (layers_in layers)) log_is ∙ past_of-push rest undo (layers_in layers) ∙ ap (λ (l : Layers). past_of rest l ++ l ∷ []) (sym back_is)

-- these are the first of those, up to and with the ones now
pub record GoingBack (before after : Held) : Type 0 where
  pub later : List Layers
  pub all : before.past ++ before.layers ∷ [] ≡ after.past ++ after.layers ∷ later

pub going_back : (start before after : Held) → GoingBack start before → before.past ≡ after.past ++ after.layers ∷ [] → GoingBack start after
going_back start before after going past = record {
  later = before.layers ∷ going.later;
  all = going.all ∙ ap (λ l. l ++ before.layers ∷ going.later) past ∙ append_assoc after.past (after.layers ∷ []) (before.layers ∷ going.later);
}

at_end : (xs : List Layers) (x : Layers) (ys : List Layers) → slice_get (xs ++ x ∷ ys) (length xs) ≡ Some x
at_end [] x ys = refl
at_end (y ∷ xs) x ys = at_end xs x ys

taken : (past xs : List Layers) (now x : Layers) (ys : List Layers) → past ++ now ∷ [] ≡ xs ++ x ∷ ys → take (length xs) (past ++ now ∷ []) ≡ xs
taken past xs now x ys is = ap (take (length xs)) is ∙ take-append_seam xs (x ∷ ys)

pub gone_back : (start after : Held) (mark : ℕ) → GoingBack start after → length after.past ≡ mark → mark ≤ length start.past → HeldGoesBack mark start after
gone_back start after mark going is most =
    subst (λ n. HeldGoesBack n start after) is (record {
      layers = ap (λ l. slice_get l (length after.past)) going.all ∙ at_end after.past after.layers going.later;
      past = sym (taken start.past after.past start.layers after.layers going.later going.all) ∙ take-append-le (length after.past) start.past (start.layers ∷ []) (subst (λ n. n ≤ length start.past) (sym is) most);
    })
