-- What is asked of a connector that is attached with the layout of a schema, and what settles an overlay over it.
use Rattle.std.proofs.Common.{◌≡◌, ◌⊎◌, inl, inr, List, [], ◌∷◌, Option, Some, None, true, refl, sym, ap, subst, ◌∙◌}
use Rattle.std.specs.Prelude.{IfSome, IsErrOf, option_map, Ok}
use Rattle.std.specs.List.{list_all}
use Rattle.std.proofs.lemmas.Bool.{and_parts, and_from}
use Rattle.qe_base.specs.Causes.{Faults, HasCause}
use Rattle.qe_base.specs.Schemas.{Schema}
use Rattle.qe_schema.specs.Fits.{FitsSchema}
use Rattle.qe_schema.specs.Tables.{Tables}
use Rattle.qe_view.specs.After.{after, after_all}
use Rattle.qe_view.specs.Right.{is_right, in_stages, are_right, IsFree, AreFree, ChangesLead}
use Rattle.qe_view.specs.declared.changes.Change.{Change}
use Rattle.qe_view.specs.declared.changes.ConnFault.{ConnFault}
use Rattle.qe_view.specs.declared.changes.ConnFault.TheVariants.{Failed}
use Rattle.qe_view.specs.declared.changes.Change.TheVariants.{Remove, Put, Unlink, Link, Counter}
use Rattle.qe_view.specs.Attached.{Attached, Connected, FitLayout, CanApply, OfShapes, shapes_of}
use Rattle.qe_view.specs.Calls.{CallCounts, with_apply}
use Rattle.qe_view.specs.Layouts.{layout_of}
use Rattle.qe_overlay.specs.Fits.{Stands, viewed}
use Rattle.qe_overlay.specs.Held.{Held, layers_in, held_in, none_kept}
use Rattle.qe_overlay.specs.Layers.{seen}
use Rattle.qe_overlay.specs.Settled.{SettlesBelow, AppliesAny, Settles, retold}
use Rattle.qe_overlay.proofs.Starting.{seen_none, empty_stands}
use Rattle.qe_overlay.proofs.Views.{no_cause, of_layout, has_layout, Standing, standing}

-- ---- of a schema, and of the shapes of its layout, the same is right

module _ (schema : Schema) where
  fits_shapes : (tables : Tables) → FitsSchema schema tables → FitsSchema (shapes_of (layout_of schema)) tables
  fits_shapes tables fit = record {
    models = fit.models;
    kinds = fit.kinds;
    order = fit.order;
    keys = fit.keys;
    counters = fit.counters;
    links = fit.links;
    pair_kinds = fit.pair_kinds;
    pair_order = fit.pair_order;
  }

  right_one : (change : Change) → is_right schema change ≡ true → is_right (shapes_of (layout_of schema)) change ≡ true
  right_one (Remove table id) right = right
  right_one (Put table row) right = right
  right_one (Unlink table a b) right = right
  right_one (Link table a b) right = right
  right_one (Counter table last) right = right

  right_each : (changes : List Change) → list_all (is_right schema) changes ≡ true → list_all (is_right (shapes_of (layout_of schema))) changes ≡ true
  right_each [] right = refl
  right_each (change ∷ changes) right =
      let parts = and_parts (is_right schema change) (list_all (is_right schema) changes) right in
      and_from _ _ (right_one change parts.0) (right_each changes parts.1)

  right_shapes : (changes : List Change) → are_right schema changes ≡ true → are_right (shapes_of (layout_of schema)) changes ≡ true
  right_shapes changes right =
      let parts = and_parts (list_all (is_right schema) changes) (in_stages 0 changes) right in
      and_from _ _ (right_each changes parts.0) parts.1

  after_one : (change : Change) (tables : Tables) → after (shapes_of (layout_of schema)) change tables ≡ after schema change tables
  after_one (Remove table id) tables = refl
  after_one (Put table row) tables = refl
  after_one (Unlink table a b) tables = refl
  after_one (Link table a b) tables = refl
  after_one (Counter table last) tables = refl

  after_shapes : (changes : List Change) (tables : Tables) → after_all (shapes_of (layout_of schema)) changes tables ≡ after_all schema changes tables
  after_shapes [] tables = refl
  after_shapes (change ∷ changes) tables =
      after_shapes changes (after (shapes_of (layout_of schema)) change tables) ∙ ap (after_all schema changes) (after_one change tables)

  free_one : (change : Change) (tables : Tables) → IsFree schema change tables → IsFree (shapes_of (layout_of schema)) change tables
  free_one (Remove table id) tables free = tt
  free_one (Put table row) tables free = free
  free_one (Unlink table a b) tables free = tt
  free_one (Link table a b) tables free = tt
  free_one (Counter table last) tables free = tt

  free_shapes : (changes : List Change) (tables : Tables) → AreFree schema changes tables → AreFree (shapes_of (layout_of schema)) changes tables
  free_shapes [] tables free = tt
  free_shapes (change ∷ changes) tables free =
      (free_one change tables free.0, subst (AreFree (shapes_of (layout_of schema)) changes) (sym (after_one change tables)) (free_shapes changes (after schema change tables) free.1))

-- ---- an overlay without changes

told_seen : (schema : Schema) (told : Option Tables) → option_map (seen schema (layers_in [])) told ≡ told
told_seen schema None = refl
told_seen schema (Some tables) = ap (λ (t : Tables). Some t) (seen_none schema tables)

-- ---- the changes of an overlay are such as may be applied, and make of the tables below those that are seen

module _ (schema : Schema) (held : Held) (changes : List Change) (settles : SettlesBelow schema held.layers changes) where
  leads : (told : Option Tables) → Standing schema told held → IfSome told (ChangesLead (shapes_of (layout_of schema)) changes)
  leads None stands = tt
  leads (Some tables) stands =
      let ready = (settles stands.sound stands.now.0).1 tables stands.below in
      record {
        free = free_shapes schema changes tables ready.1;
        fits = subst (FitsSchema (shapes_of (layout_of schema))) (sym (after_shapes schema changes tables ∙ ready.0)) (fits_shapes schema (seen schema held.layers tables) stands.now.1);
      }

  pub can_apply : (connected : Connected) → Stands schema held connected → CanApply connected changes
  can_apply connected stands =
      has_layout connected (layout_of schema) (λ shapes. (are_right shapes changes ≡ true) × IfSome connected.told (ChangesLead shapes changes)) stands.attached
      (right_shapes schema changes (settles stands.sound stands.now.0).0, leads connected.told (standing schema held connected stands))

  seen_by : (told : Option Tables) → Standing schema told held → option_map (after_all (shapes_of (layout_of schema)) changes) told ≡ option_map (seen schema held.layers) told
  seen_by None stands = refl
  seen_by (Some tables) stands =
      let ready = (settles stands.sound stands.now.0).1 tables stands.below in
      ap (λ (t : Tables). Some t) (after_shapes schema changes tables ∙ ready.0)

  -- once they are applied, the tables below are those that were seen
  pub applied : (connected : Connected) (told_now : Option Tables) → Stands schema held connected → OfShapes connected (λ shapes. told_now ≡ option_map (after_all shapes changes) connected.told)
      → told_now ≡ option_map (seen schema held.layers) connected.told
  applied connected told_now stands gives =
      of_layout connected (layout_of schema) (λ shapes. told_now ≡ option_map (after_all shapes changes) connected.told) stands.attached gives
      ∙ seen_by connected.told (standing schema held connected stands)

  unchanged : (told : Option Tables) → changes ≡ [] → told ≡ option_map (after_all (shapes_of (layout_of schema)) changes) told
  unchanged None none = refl
  unchanged (Some tables) none = ap (λ (l : List Change). Some (after_all (shapes_of (layout_of schema)) l tables)) (sym none)

  -- and where there are none, they are so
  pub none_applied : (connected : Connected) → Stands schema held connected → changes ≡ [] → connected.told ≡ option_map (seen schema held.layers) connected.told
  none_applied connected stands none = unchanged connected.told none ∙ seen_by connected.told (standing schema held connected stands)

  -- ---- after it nothing is held

  told_is : (connected now : Connected) (unit : Unit {0}) → Stands schema held connected → AppliesAny changes connected now (Ok unit) → now.told ≡ option_map (seen schema held.layers) connected.told
  told_is connected now unit stands (inl (none, same, ok)) = ap (λ (c : Connected). c.told) same ∙ none_applied connected stands none
  told_is connected now unit stands (inr applies) = applied connected now.told stands applies.ok

  caused : (connected now : Connected) (unit : Unit {0}) → AppliesAny changes connected now (Ok unit) → HasCause connected.faults now.faults (IsErrOf {T = Unit {0}} {E = ConnFault} (Ok unit) Failed)
  caused connected now unit (inl (none, same, ok)) =
      subst (λ (f : Faults). HasCause connected.faults f (IsErrOf {T = Unit {0}} {E = ConnFault} (Ok unit) Failed)) (sym (ap (λ (c : Connected). c.faults) same)) (no_cause connected.faults unit)
  caused connected now unit (inr applies) = applies.cause

  called : (connected now : Connected) (unit : Unit {0}) → AppliesAny changes connected now (Ok unit) → ((now.calls ≡ connected.calls) × (now.told ≡ connected.told)) ⊎ (now.calls ≡ with_apply connected.calls)
  called connected now unit (inl (none, same, ok)) = inl (ap (λ (c : Connected). c.calls) same, ap (λ (c : Connected). c.told) same)
  called connected now unit (inr applies) = inr (ap (λ (c : Connected). c.calls) applies.others)

  below_is : (connected now : Connected) (unit : Unit {0}) → AppliesAny changes connected now (Ok unit) → now ≡ retold connected now
  below_is connected now unit (inl (none, same, ok)) = same ∙ (λ i. record connected { told = (sym same i).told; faults = (sym same i).faults; calls = (sym same i).calls })
  below_is connected now unit (inr applies) =
      applies.others ∙ ap (λ (calls : CallCounts). record connected { told = now.told; faults = now.faults; calls = calls }) (sym (ap (λ (c : Connected). c.calls) applies.others))

  pub settled : (connected now : Connected) (unit : Unit {0}) → Stands schema held connected → AppliesAny changes connected now (Ok unit) → Settles (viewed schema held connected) (viewed schema (held_in none_kept) now) (Ok tt)
  settled connected now unit stands applies =
      let same = told_is connected now unit stands applies in
      record {
        ok = (told_seen schema now.told ∙ same, refl, same);
        err = tt;
        cause = caused connected now unit applies;
        misfit = λ misfit. misfit;
        applied = called connected now unit applies;
        others = ap (λ (c : Connected). record (viewed schema (held_in none_kept) now) { below = c }) (below_is connected now unit applies);
      }

  fits_now : (connected now : Connected) (unit : Unit {0}) → FitLayout connected → AppliesAny changes connected now (Ok unit) → FitLayout now
  fits_now connected now unit fits (inl (none, same, ok)) = subst FitLayout (sym same) fits
  fits_now connected now unit fits (inr applies) = applies.fits

  pub settled_stands : (connected now : Connected) (unit : Unit {0}) → Stands schema held connected → AppliesAny changes connected now (Ok unit) → Stands schema (held_in none_kept) now
  settled_stands connected now unit stands applies =
      empty_stands schema now stands.sound
      (ap (λ (c : Connected). option_map (λ (a : Attached). a.layout) c.attached) (below_is connected now unit applies) ∙ stands.attached)
      (fits_now connected now unit stands.below applies)
