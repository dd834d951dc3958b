-- What a core stands for.
use Rattle.std.specs.Prelude.{◌≡◌, true, false, not, List}
use Rattle.qe_base.specs.Schemas.{Schema}
use Rattle.qe_base.specs.declared.event.Entry.{Entry}
use Rattle.qe_history.specs.History.{Legal}
use Rattle.qe_history.specs.State.{State, opening}
use Rattle.qe_overlay.specs.Fits.{Stands, viewed_by}
use Rattle.qe_overlay.specs.Held.{KeptLayers, held_in, none_kept}
use Rattle.qe_overlay.specs.declared.view.OverlayView.{OverlayView}
use Rattle.qe_view.specs.Attached.{Connected}
use Rattle.qe_view.specs.Versions.{Viewed}
use Rattle.qe_session.specs.declared.machine.Core.{Core}

-- what is seen of a view, by what is seen of its connector
abbrev pub seen_in : {C : Type 0} → (C → Connected) → OverlayView C → Viewed
seen_in seen view = viewed_by view.schema view.overlay (seen view.below)

-- it is in order
abbrev pub InOrder : {C : Type 0} → (C → Connected) → OverlayView C → Type 0
InOrder seen view = Stands view.schema (held_in view.overlay) (seen view.below)

-- Between events its view is of its schema, has no changes, and lies over what is attached with the schema's layout.
pub record IsReady (schema viewed : Schema) (overlay : KeptLayers) (below : Connected) : Type 0 where
  pub same : viewed ≡ schema
  pub rest : overlay ≡ none_kept
  pub stands : Stands schema (held_in none_kept) below

-- the same of a core over what is seen of its connector
abbrev pub Ready : {C : Type 0} → (C → Connected) → Core C → Type 0
Ready seen core = IsReady core.schema core.view.schema core.view.overlay (seen core.view.below)

-- A connector stands for a state: its told tables are the live ones, its count of faults is that of the last fault, and
-- where the state is steady no call may fail.
pub record StandsForState (schema : Schema) (below : Connected) (state : State) : Type 0 where
  pub schema_is : state.schema ≡ schema
  pub live : state.live ≡ below.told
  pub faults : state.faults ≡ below.faults.count
  pub steady : state.steady ≡ true → below.faults.may_fail ≡ false

-- the state that a connector stands for before any event
abbrev pub first_state : Schema → Connected → State
first_state schema below = opening schema below.told below.faults.count (not below.faults.may_fail)

-- it stands for a legal history from an opening
pub record StandsFor (schema : Schema) (below : Connected) (opening : State) (history : List Entry) : Type 0 where
  pub after : State
  pub legal : Legal opening history after
  pub stands : StandsForState schema below after
