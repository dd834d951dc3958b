-- What an overlay holds: the layers now, and those before each change that can be taken back.
use Rattle.std.specs.Prelude.{◌≡◌, ℕ, ℤ, Bool, false, List, [], ◌∷◌, ◌++◌, ◌==◌, take, slice_get, unwrap_or, Option, Some, None, if◌then◌else◌}
use Rattle.std.specs.BTreeMap.{insert_entry, is_at}
use Rattle.std.specs.Int.{int_max}
use Rattle.std.specs.List.{list_any}
use Rattle.std.specs.Map.{lookup, remove_entry, set_value}
use Rattle.qe_base.specs.Values.{row_cmp}
use Rattle.qe_base.specs.declared.value.Row.{Row}
use Rattle.qe_base.specs.declared.value.TableId.{TableId}
use Rattle.qe_overlay.specs.Layers.{Entry, Layer, Layers, no_layer}
use Rattle.qe_overlay.specs.declared.overlay.Undo.{Undo}
use Rattle.qe_overlay.specs.declared.overlay.Undo.TheVariants.{Entered, Raised}

-- the layers now, and before each change, the oldest first
pub record Held : Type 0 where
  pub layers : Layers
  pub past : List Layers

-- the layers of a list, and nothing in those behind its end
abbrev pub layers_in : List Layer → Layers
layers_in layers = λ table. unwrap_or (slice_get layers table) no_layer

-- what is kept of that: a list of layers, and what takes each change back, the oldest first
pub record KeptLayers : Type 0 where
  pub layers : List Layer
  pub log : List Undo

abbrev pub with_layer : ℕ → Layer → Layers → Layers
with_layer table layer layers = λ t. if t == table then layer else layers t

-- ---- changes

abbrev pub entry_at : Row → Layer → Option (Option Row)
entry_at id layer = lookup (is_at (row_cmp id)) layer.entries

-- under this id stands this row now, or none
abbrev pub with_entry : Row → Option Row → Layer → Layer
with_entry id now layer = record layer { entries = insert_entry row_cmp layer.entries id now }

abbrev pub raised_over : Option ℤ → ℤ → ℤ
raised_over None last = last
raised_over (Some raised) last = int_max last raised

abbrev pub with_raised : ℤ → Layer → Layer
with_raised last layer = record layer { last = Some (raised_over layer.last last) }

-- the layers of a change, and those before it
abbrev pub changed_to : Layers → Held → Held
changed_to layers held = record { layers = layers; past = held.past ++ held.layers ∷ [] }

abbrev pub entered : ℕ → Row → Option Row → Held → Held
entered table id now held = changed_to (with_layer table (with_entry id now (held.layers table)) held.layers) held

abbrev pub raised : ℕ → ℤ → Held → Held
raised table last held = changed_to (with_layer table (with_raised last (held.layers table)) held.layers) held

-- ---- taking back

-- what stood under the id stands there again
abbrev pub with_before : Row → Option (Option Row) → Layer → Layer
with_before id None layer = record layer { entries = remove_entry (is_at (row_cmp id)) layer.entries }
with_before id (Some before) layer = record layer { entries = set_value (is_at (row_cmp id)) layer.entries before }

abbrev pub last_before : Option ℤ → Option ℤ → Option ℤ
last_before before None = None
last_before before (Some raised) = before

-- a raised counter is again what it was
abbrev pub with_last : Option ℤ → Layer → Layer
with_last before layer = record layer { last = last_before before layer.last }

abbrev pub undone : Undo → Layers → Layers
undone (Entered table id before) layers = with_layer table.0 (with_before id before (layers table.0)) layers
undone (Raised table before) layers = with_layer table.0 (with_last before (layers table.0)) layers

-- the last one first
abbrev pub all_undone : List Undo → Layers → Layers
all_undone [] layers = layers
all_undone (undo ∷ later) layers = undone undo (all_undone later layers)

-- the layers before each of the changes
abbrev pub past_of : List Undo → Layers → List Layers
past_of [] layers = []
past_of (undo ∷ later) layers = all_undone (undo ∷ later) layers ∷ past_of later layers

-- what the kept lists stand for
abbrev pub held_in : KeptLayers → Held
held_in kept = record { layers = layers_in kept.layers; past = past_of kept.log (layers_in kept.layers) }

-- what is entered of a table
abbrev pub entries_in : KeptLayers → ℕ → List Entry
entries_in kept table = ((held_in kept).layers table).entries

-- nothing was changed
abbrev pub none_kept : KeptLayers
none_kept = record { layers = []; log = [] }

-- all changes from this number on were taken back
pub record HeldGoesBack (mark : ℕ) (before after : Held) : Type 0 where
  pub layers : slice_get (before.past ++ before.layers ∷ []) mark ≡ Some after.layers
  pub past : after.past ≡ take mark before.past

-- ---- some tables alone

abbrev pub is_listed : List TableId → ℕ → Bool
is_listed tables number = list_any (λ (table : TableId). table.0 == number) tables

-- the layers of these tables, and of all others nothing
abbrev pub narrowed : List TableId → Layers → Layers
narrowed tables layers = λ table. if is_listed tables table then layers table else no_layer

-- layers that hold nothing of other tables stay as they are
abbrev pub NarrowedStay : Type 0
NarrowedStay = (tables : List TableId) (layers : Layers) → ((table : ℕ) → is_listed tables table ≡ false → layers table ≡ no_layer) → narrowed tables layers ≡ layers
