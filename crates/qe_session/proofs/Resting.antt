-- A view without changes.
use Rattle.std.proofs.Common.{◌≡◌, [], Bool, true, false, not, ap, refl, sym, subst, Option, Some, None, option_map}
use Rattle.std.proofs.lemmas.Bool.{false≢true}
use Rattle.qe_base.specs.Schemas.{Schema}
use Rattle.qe_history.specs.History.{Opened}
use Rattle.qe_overlay.specs.Fits.{HasLayout, Stands, viewed_by}
use Rattle.qe_overlay.specs.Held.{Held, KeptLayers, held_in, layers_in, none_kept}
use Rattle.qe_overlay.specs.Layers.{seen}
use Rattle.qe_overlay.proofs.Starting.{empty_stands, seen_none}
use Rattle.qe_schema.specs.Sound.{IsSound}
use Rattle.qe_schema.specs.Tables.{Tables}
use Rattle.qe_session.proofs.Joining.{AtRest}
use Rattle.qe_view.specs.Attached.{Connected, FitLayout}
use Rattle.qe_view.specs.Layouts.{layout_of}
use Rattle.qe_session.specs.Standing.{IsReady, StandsFor, first_state}

-- what stands stands without changes too
pub forgotten : (schema now : Schema) (held : Held) (below after : Connected) (overlay : KeptLayers) → Stands schema held below → now ≡ schema → overlay ≡ none_kept → after ≡ below → Stands now (held_in overlay) after
forgotten schema now held below after overlay stands same none is =
    subst (λ (s : Schema). Stands s (held_in overlay) after) (sym same) (subst (λ (b : Connected). Stands schema (held_in overlay) b) (sym is)
    (subst (λ (k : KeptLayers). Stands schema (held_in k) below) (sym none) (empty_stands schema below stands.sound stands.attached stands.below)))

-- a view without changes over what is attached
pub begun : (schema shown : Schema) (overlay : KeptLayers) (below after : Connected) → IsSound schema → HasLayout below (layout_of schema) → FitLayout below → shown ≡ schema → overlay ≡ none_kept → after ≡ below → IsReady schema shown overlay after
begun schema shown overlay below after sound attached fits same none is = record {
  same = same;
  rest = none;
  stands = subst (λ (b : Connected). Stands schema (held_in none_kept) b) (sym is) (empty_stands schema below sound attached fits);
}

steady : (b : Bool) → not b ≡ true → b ≡ false
steady true h = absurd (false≢true h)
steady false h = refl

-- it stands for the empty history
pub first : (schema : Schema) (below after : Connected) → after ≡ below → StandsFor schema after (first_state schema below) []
first schema below after is = subst (λ (b : Connected). StandsFor schema b (first_state schema below) []) (sym is) (record {
  after = first_state schema below;
  legal = Opened;
  stands = record { schema_is = refl; live = refl; faults = refl; steady = steady below.faults.may_fail };
})

seen_as_told : (schema : Schema) (told : Option Tables) → option_map (seen schema (layers_in [])) told ≡ told
seen_as_told schema None = refl
seen_as_told schema (Some tables) = ap Some (seen_none schema tables)

-- a view without changes shows what is below
pub at_rest : (schema : Schema) (overlay : KeptLayers) (below : Connected) → overlay ≡ none_kept → AtRest (viewed_by schema overlay below)
at_rest schema overlay below none = subst (λ (kept : KeptLayers). AtRest (viewed_by schema kept below)) (sym none) (record { now = seen_as_told schema below.told; past = refl })
