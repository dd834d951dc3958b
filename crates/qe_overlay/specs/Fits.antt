-- Layers that fit a schema, and what is seen through them.
use Rattle.std.specs.Prelude.{◌≡◌, ℕ, Bool, true, false, List, ◌⊎◌, [], map, Option, Some, None, option_map, IfSome}
use Rattle.std.specs.List.{AllByRecursion}
use Rattle.std.specs.List.Sorted.{IsStrictlySortedBy}
use Rattle.std.specs.Map.{keys_of}
use Rattle.qe_base.specs.Values.{row_cmp}
use Rattle.qe_base.specs.declared.schema.Table.{Table}
use Rattle.qe_base.specs.declared.value.Row.{Row}
use Rattle.qe_base.specs.Schemas.{Schema}
use Rattle.qe_schema.specs.Sound.{IsSound}
use Rattle.qe_schema.specs.Fits.{FitsSchema}
use Rattle.qe_schema.specs.Tables.{Tables, table_at, is_link, id_of}
use Rattle.qe_view.specs.After.{pair_row}
use Rattle.qe_view.specs.Right.{is_row_of, is_id_of, is_pair_of, is_last_of}
use Rattle.qe_view.specs.Attached.{Attached, Connected, FitLayout}
use Rattle.qe_view.specs.Layouts.{Layout, layout_of}
use Rattle.qe_view.specs.Versions.{Viewed}
use Rattle.qe_base.specs.declared.value.TableId.{TableId}
use Rattle.qe_overlay.specs.Held.{Held, KeptLayers, held_in, narrowed, none_kept}
use Rattle.qe_overlay.specs.Laid.{laid_over, page_over}
use Rattle.qe_overlay.specs.Layers.{Entry, Layers, pair_of, seen}

-- a row of this model, with this id
abbrev pub IsRowAt : Schema → ℕ → Row → Row → Type 0
IsRowAt schema table id row = (is_row_of schema table row ≡ true) × (id_of (table_at schema table) row ≡ id.values)

-- a pair of this link table, as a row
abbrev pub IsPairOf : Schema → ℕ → Row → Type 0
IsPairOf schema table row = (is_pair_of schema table (pair_of row).0 (pair_of row).1 ≡ true) × (pair_row (pair_of row) ≡ row)

abbrev pub FitsAs : Bool → Schema → ℕ → Entry → Type 0
FitsAs true schema table entry = IsPairOf schema table entry.0 × IfSome entry.1 (λ row. row ≡ entry.0)
FitsAs false schema table entry = (is_id_of schema table entry.0 ≡ true) × IfSome entry.1 (IsRowAt schema table entry.0)

-- a pair of a link table, or an id of a model with a row of that id
abbrev pub FitsEntry : Schema → ℕ → Entry → Type 0
FitsEntry schema table entry = FitsAs (is_link schema table) schema table entry

pub record LayersFit (schema : Schema) (layers : Layers) : Type 0 where
  pub order : (table : ℕ) → IsStrictlySortedBy row_cmp (keys_of (layers table).entries)
  pub entries : (table : ℕ) → AllByRecursion (FitsEntry schema table) (layers table).entries
  pub counters : (table : ℕ) → IfSome (layers table).last (λ last. is_last_of schema table last ≡ true)

-- the layers fit, and so do the tables that are seen through them
abbrev pub FitOver : Schema → Option Tables → Layers → Type 0
FitOver schema told layers = LayersFit schema layers × IfSome told (λ tables. FitsSchema schema (seen schema layers tables))

-- attached with this layout
abbrev pub HasLayout : Connected → Layout → Type 0
HasLayout connected layout = option_map (λ (attached : Attached). attached.layout) connected.attached ≡ Some layout

-- the tables below where they are told, seen through the layers now and before each change
abbrev pub viewed : Schema → Held → Connected → Viewed
viewed schema held connected = record {
  schema = schema;
  now = option_map (seen schema held.layers) connected.told;
  past = map (λ layers. option_map (seen schema layers) connected.told) held.past;
  below = connected;
}

-- the same of what is kept of an overlay
abbrev pub viewed_by : Schema → KeptLayers → Connected → Viewed
viewed_by schema kept connected = viewed schema (held_in kept) connected

-- what is below is attached with the layout of the schema, and all layers fit
pub record Stands (schema : Schema) (held : Held) (connected : Connected) : Type 0 where
  pub sound : IsSound schema
  pub attached : HasLayout connected (layout_of schema)
  pub below : FitLayout connected
  pub now : FitOver schema connected.told held.layers
  pub past : AllByRecursion (FitOver schema connected.told) held.past

-- rows that nothing is entered over stay as they are
abbrev pub LiesOver : Table → List Entry → (Row → Bool) → List Row → List Row → Type 0
LiesOver table entries chosen rows seen = ((entries ≡ []) × (seen ≡ rows)) ⊎ (seen ≡ laid_over table entries chosen rows)

-- a page that nothing is entered over stays as it is
abbrev pub PageLiesOver : Table → List Entry → Option Row → Bool → ℕ → List Row → List Row → Type 0
PageLiesOver table entries from backward count rows seen = ((entries ≡ []) × (seen ≡ rows)) ⊎ (seen ≡ page_over table entries from backward count rows)

-- the told tables that are seen fit
seen_fit : (schema : Schema) (told : Option Tables) (layers : Layers) → FitOver schema told layers → IfSome (option_map (seen schema layers) told) (FitsSchema schema)
seen_fit schema None layers fit = tt
seen_fit schema (Some tables) layers fit = fit.1

pub stands_fit : (schema : Schema) (held : Held) (connected : Connected) → Stands schema held connected → IfSome (viewed schema held connected).now (FitsSchema schema)
stands_fit schema held connected stands = seen_fit schema connected.told held.layers stands.now

-- an overlay without changes stands over what is attached with the layout of the schema
abbrev pub EmptyStands : Type 0
EmptyStands =
    (schema : Schema) (connected : Connected) → IsSound schema → HasLayout connected (layout_of schema) → FitLayout connected
    → Stands schema (held_in none_kept) connected

-- of layers that fit, those of some tables fit too
abbrev pub NarrowedFit : Type 0
NarrowedFit = (schema : Schema) (tables : List TableId) (layers : Layers) → LayersFit schema layers → LayersFit schema (narrowed tables layers)
