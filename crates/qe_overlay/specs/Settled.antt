-- The changes that make of the tables below those that are seen.
use Rattle.std.specs.Prelude.{◌≡◌, ◌⊎◌, ℕ, ℤ, Bool, true, List, [], ◌∷◌, ◌++◌, Option, Some, None, suc, if◌then◌else◌, Result, Ok, OnOk, OnErr, IsErrOf}
use Rattle.qe_base.specs.Causes.{HasCause}
use Rattle.qe_base.specs.declared.value.Row.{Row}
use Rattle.qe_base.specs.declared.value.TableId.{TableId}
use Rattle.qe_base.specs.Schemas.{Schema}
use Rattle.qe_schema.specs.Sound.{IsSound}
use Rattle.qe_schema.specs.Columns.{value_at}
use Rattle.qe_schema.specs.Fits.{FitsSchema}
use Rattle.qe_schema.specs.Tables.{Tables, is_link}
use Rattle.qe_view.specs.After.{after_all}
use Rattle.qe_view.specs.Answers.{IsMisfit, Applies}
use Rattle.qe_view.specs.Attached.{Connected}
use Rattle.qe_view.specs.Calls.{with_apply}
use Rattle.qe_view.specs.Right.{are_right, AreFree}
use Rattle.qe_view.specs.Versions.{Viewed}
use Rattle.qe_view.specs.declared.changes.Change.{Change}
use Rattle.qe_view.specs.declared.changes.ConnFault.{ConnFault}
use Rattle.qe_view.specs.declared.changes.ConnFault.TheVariants.{Failed}
use Rattle.qe_view.specs.declared.changes.Change.TheVariants.{Remove, Put, Unlink, Link, Counter}
use Rattle.qe_overlay.specs.Fits.{LayersFit}
use Rattle.qe_overlay.specs.Layers.{Entry, Layer, Layers, seen}
use Rattle.qe_overlay.specs.declared.changes.Stage.{Stage}
use Rattle.qe_overlay.specs.declared.changes.Stage.TheVariants.{Removes, Puts, Unlinks, Links, Counters}

abbrev pub numbered : ℕ → TableId
numbered table = record { 0 = table }

-- what is entered of an id goes first, and comes again as it is now
abbrev pub entry_changes : Stage → TableId → Row → Option Row → List Change
entry_changes Removes table id now = Remove table id ∷ []
entry_changes Puts table id None = []
entry_changes Puts table id (Some row) = Put table row ∷ []
entry_changes Unlinks table id now = Unlink table (value_at id 0) (value_at id 1) ∷ []
entry_changes Links table id None = []
entry_changes Links table id (Some pair) = Link table (value_at pair 0) (value_at pair 1) ∷ []
entry_changes Counters table id now = []

abbrev pub all_entries : Stage → TableId → List Entry → List Change
all_entries stage table [] = []
all_entries stage table (entry ∷ entries) = entry_changes stage table entry.0 entry.1 ++ all_entries stage table entries

abbrev pub counter_changes : TableId → Option ℤ → List Change
counter_changes table None = []
counter_changes table (Some last) = Counter table last ∷ []

-- removes and puts are of models, unlinks and links of link tables
abbrev pub table_changes : Bool → Stage → TableId → Layer → List Change
table_changes link Removes table layer = if link then [] else all_entries Removes table layer.entries
table_changes link Puts table layer = if link then [] else all_entries Puts table layer.entries
table_changes link Unlinks table layer = if link then all_entries Unlinks table layer.entries else []
table_changes link Links table layer = if link then all_entries Links table layer.entries else []
table_changes link Counters table layer = counter_changes table layer.last

-- the changes of a stage for the tables from this number on
abbrev pub stage_from : Schema → Stage → ℕ → List Layer → List Change
stage_from schema stage table [] = []
stage_from schema stage table (layer ∷ layers) = table_changes (is_link schema table) stage (numbered table) layer ++ stage_from schema stage (suc table) layers

abbrev pub stage_changes : Schema → Stage → List Layer → List Change
stage_changes schema stage layers = stage_from schema stage 0 layers

-- all of them, stage by stage
abbrev pub settled_by : Schema → List Layer → List Change
settled_by schema layers =
    stage_changes schema Removes layers ++ (stage_changes schema Puts layers ++ (stage_changes schema Unlinks layers ++ (stage_changes schema Links layers ++ stage_changes schema Counters layers)))

-- The changes are right, and make of tables that fit those that are seen, each put to an id that is free by then.
abbrev pub SettlesBelow : Schema → Layers → List Change → Type 0
SettlesBelow schema layers changes =
    IsSound schema → LayersFit schema layers
    → (are_right schema changes ≡ true) × ((tables : Tables) → FitsSchema schema tables → (after_all schema changes tables ≡ seen schema layers tables) × AreFree schema changes tables)

-- there were no changes, and nothing was done, or the changes were applied
abbrev pub AppliesAny : List Change → Connected → Connected → Result (Unit {0}) ConnFault → Type 0
AppliesAny changes before after result = ((changes ≡ []) × (after ≡ before) × (result ≡ Ok tt)) ⊎ Applies changes before after result

-- what is below, of which the told tables and counts alone may differ
abbrev pub retold : Connected → Connected → Connected
retold before after = record before { told = after.told; faults = after.faults; calls = after.calls }

-- What was seen is what is told below, and can't be taken back; or after a refusal all is as it was. At most one
-- call was made below, which applied the changes.
pub record Settles (before after : Viewed) (result : Result (Unit {0}) ConnFault) : Type 0 where
  pub ok : OnOk result ((after.now ≡ before.now) × (after.past ≡ []) × (after.below.told ≡ before.now))
  pub err : OnErr result ((after.now ≡ before.now) × (after.past ≡ before.past) × (after.below.told ≡ before.below.told))
  pub cause : HasCause before.below.faults after.below.faults (IsErrOf result Failed)
  pub misfit : IsMisfit result → ⊥
  pub applied : ((after.below.calls ≡ before.below.calls) × (after.below.told ≡ before.below.told)) ⊎ (after.below.calls ≡ with_apply before.below.calls)
  pub others : after ≡ record before { now = after.now; past = after.past; below = retold before.below after.below }
