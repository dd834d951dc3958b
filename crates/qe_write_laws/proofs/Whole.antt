-- What each change keeps, writes of trees that fit keep: an induction over the tree.
use Rattle.std.proofs.Common.{◌≡◌, List, map, refl, sym, ap, subst, subst₂, ◌∙◌}
use Rattle.qe_base.specs.declared.answer.Outside.{Outside}
use Rattle.qe_base.specs.declared.write.Create.{Create, roll-Create}
use Rattle.qe_base.specs.declared.write.Update.{Update, roll-Update}
use Rattle.qe_base.specs.declared.write.Nested.{Nested, roll-Nested}
use Rattle.qe_base.specs.declared.write.Step.{Step}
use Rattle.qe_base.specs.declared.write.Step.TheViews.{roll-Step}
use Rattle.qe_base.specs.declared.write.Step.TheOpen as step
use Rattle.qe_base.specs.declared.write.Step.TheOpen.{Step-F, Create-F, Nested-F, Update-F}
use Rattle.qe_base.specs.declared.write.Step.TheFolds.{ind-Create, ind-Update, map-Step, map-Create, map-Nested, map-Update}
use Rattle.qe_base.specs.Schemas.{Schema}
use Rattle.qe_schema.specs.Tables.{Tables}
use Rattle.qe_writing.specs.Write as writing
use Rattle.qe_writing.specs.Write.{Run, Creates, FieldRuns, Updates, StepParts, create_of, update_of}
use Rattle.qe_writing.specs.WriteFits as fitting
use Rattle.qe_writing.specs.WriteFits.{FittingStep, FittingCreate, FittingSteps, FittingUpdate, FittingParts, create_fits, update_fits}
use Rattle.qe_writing.proofs.Layers.{nested_of, step_of, create_roll, update_roll, nested_roll, step_roll}
use Rattle.qe_writing.proofs.FitLayers.{nested_fits, step_fits, create_fits_roll, update_fits_roll, nested_fits_roll, step_fits_roll}
use Rattle.qe_write_laws.specs.Keeps.{Keeps}
use Rattle.qe_schema.specs.Sound.{IsSound}
use Rattle.qe_write_laws.proofs.Lists.{map_both}
use Rattle.qe_write_laws.proofs.Steps.{CreatesKeep, UpdatesKeep, StepKeeps, FieldKeeps, KeptCreate, KeptUpdate, KeptStep, KeptSteps, KeptParts, runs_in, fits_in}
use Rattle.qe_write_laws.proofs.Holders.{step_keeps}
use Rattle.qe_write_laws.proofs.Fields.{steps_keep}
use Rattle.qe_write_laws.proofs.Passes.{runs_of, fits_of}
use Rattle.qe_write_laws.proofs.Trees.{create_keeps, update_keeps}

module _ (schema : Schema) (Fact : Tables → Type 0) (sound : IsSound schema) (keeps : Keeps schema Fact) (outside : Outside) where
  -- ---- what holds of each part of a tree

  abbrev OfStep : Step → Type 0
  OfStep one = StepKeeps schema Fact (step_of schema outside one) (step_fits schema one)

  abbrev OfCreate : Create → Type 0
  OfCreate create = CreatesKeep schema Fact (create_of schema outside create) (create_fits schema create)

  abbrev OfNested : Nested → Type 0
  OfNested nested = FieldKeeps schema Fact (nested_of schema outside nested) (nested_fits schema nested)

  abbrev OfUpdate : Update → Type 0
  OfUpdate update = UpdatesKeep schema Fact (update_of schema outside update) (update_fits schema update)

  -- parts of which it holds
  abbrev Steps : Type 0
  Steps = (one : Step) × OfStep one

  abbrev SomeCreates : Type 0
  SomeCreates = (create : Create) × OfCreate create

  abbrev SomeNested : Type 0
  SomeNested = (nested : Nested) × OfNested nested

  abbrev SomeUpdates : Type 0
  SomeUpdates = (update : Update) × OfUpdate update

  abbrev kept_step : Steps → KeptStep schema Fact
  kept_step one = record { run = step_of schema outside one.0; fit = step_fits schema one.0; keeps = one.1 }

  abbrev kept_create : SomeCreates → KeptCreate schema Fact
  kept_create create = record { make = create_of schema outside create.0; fit = create_fits schema create.0; keeps = create.1 }

  abbrev kept_nested : SomeNested → KeptSteps schema Fact
  kept_nested nested = record { runs = nested_of schema outside nested.0; fit = nested_fits schema nested.0; keeps = nested.1 }

  abbrev kept_update : SomeUpdates → KeptUpdate schema Fact
  kept_update update = record { make = update_of schema outside update.0; fit = update_fits schema update.0; keeps = update.1 }

  abbrev Parts : Type 0
  Parts = Step-F Steps SomeCreates SomeNested SomeUpdates

  abbrev kept : Parts → KeptParts schema Fact
  kept = map-Step Steps SomeCreates SomeNested SomeUpdates (KeptStep schema Fact) (KeptCreate schema Fact) (KeptSteps schema Fact) (KeptUpdate schema Fact) kept_step kept_create kept_nested kept_update

  abbrev bare : Parts → Step-F Step Create Nested Update
  bare = map-Step Steps SomeCreates SomeNested SomeUpdates Step Create Nested Update (λ e. e.0) (λ e. e.0) (λ e. e.0) (λ e. e.0)

  abbrev meant : Step-F Step Create Nested Update → StepParts
  meant = map-Step Step Create Nested Update Run Creates FieldRuns Updates (step_of schema outside) (create_of schema outside) (nested_of schema outside) (update_of schema outside)

  abbrev fitted : Step-F Step Create Nested Update → FittingParts
  fitted = map-Step Step Create Nested Update FittingStep FittingCreate FittingSteps FittingUpdate (step_fits schema) (create_fits schema) (nested_fits schema) (update_fits schema)

  meant_same : (parts : Parts) → meant (bare parts) ≡ runs_in schema Fact (kept parts)
  meant_same (step.Set uniques) = refl
  meant_same (step.Disconnect at) = refl
  meant_same (step.Delete at) = refl
  meant_same (step.DeleteMany asked) = refl
  meant_same (step.Update at update) = refl
  meant_same (step.UpdateMany asked update) = refl
  meant_same (step.Upsert at create update) = refl
  meant_same (step.Connect at) = refl
  meant_same (step.ConnectOrCreate at create) = refl
  meant_same (step.Create create) = refl
  meant_same (step.CreateMany creates) = ap (λ (all : List Creates). step.CreateMany all) (map_both (create_of schema outside) (λ (e : SomeCreates). e.0) (λ (k : KeptCreate schema Fact). k.make) kept_create (λ e. refl) creates)

  fitted_same : (parts : Parts) → fitted (bare parts) ≡ fits_in schema Fact (kept parts)
  fitted_same (step.Set uniques) = refl
  fitted_same (step.Disconnect at) = refl
  fitted_same (step.Delete at) = refl
  fitted_same (step.DeleteMany asked) = refl
  fitted_same (step.Update at update) = refl
  fitted_same (step.UpdateMany asked update) = refl
  fitted_same (step.Upsert at create update) = refl
  fitted_same (step.Connect at) = refl
  fitted_same (step.ConnectOrCreate at create) = refl
  fitted_same (step.Create create) = refl
  fitted_same (step.CreateMany creates) = ap (λ (all : List FittingCreate). step.CreateMany all) (map_both (create_fits schema) (λ (e : SomeCreates). e.0) (λ (k : KeptCreate schema Fact). k.fit) kept_create (λ e. refl) creates)

  -- ---- one layer

  step_case : (parts : Parts) → OfStep (roll-Step (bare parts))
  step_case parts =
      subst₂ (StepKeeps schema Fact) (sym (step_roll schema outside (bare parts) ∙ ap (writing.step_step schema) (meant_same parts))) (sym (step_fits_roll schema (bare parts) ∙ ap (fitting.step_step schema) (fitted_same parts)))
      (step_keeps schema Fact sound keeps (kept parts))

  nested_runs : (all : List SomeNested) → map (nested_of schema outside) (map (λ (e : SomeNested). e.0) all) ≡ runs_of schema Fact (map kept_nested all)
  nested_runs = map_both (nested_of schema outside) (λ (e : SomeNested). e.0) (λ (k : KeptSteps schema Fact). k.runs) kept_nested (λ e. refl)

  nested_fitting : (all : List SomeNested) → map (nested_fits schema) (map (λ (e : SomeNested). e.0) all) ≡ fits_of schema Fact (map kept_nested all)
  nested_fitting = map_both (nested_fits schema) (λ (e : SomeNested). e.0) (λ (k : KeptSteps schema Fact). k.fit) kept_nested (λ e. refl)

  create_case : (parts : Create-F Steps SomeCreates SomeNested SomeUpdates) → OfCreate (roll-Create (map-Create Steps SomeCreates SomeNested SomeUpdates Step Create Nested Update (λ e. e.0) (λ e. e.0) (λ e. e.0) (λ e. e.0) parts))
  create_case parts =
      subst₂ (CreatesKeep schema Fact)
      (sym (create_roll schema outside (record { values = parts.values; nested = map (λ (e : SomeNested). e.0) parts.nested }) ∙ ap (λ all. writing.create_step schema outside (record { values = parts.values; nested = all })) (nested_runs parts.nested)))
      (sym (create_fits_roll schema (record { values = parts.values; nested = map (λ (e : SomeNested). e.0) parts.nested }) ∙ ap (λ all. fitting.create_step schema (record { values = parts.values; nested = all })) (nested_fitting parts.nested)))
      (create_keeps schema Fact sound keeps outside parts.values (map kept_nested parts.nested))

  update_case : (parts : Update-F Steps SomeCreates SomeNested SomeUpdates) → OfUpdate (roll-Update (map-Update Steps SomeCreates SomeNested SomeUpdates Step Create Nested Update (λ e. e.0) (λ e. e.0) (λ e. e.0) (λ e. e.0) parts))
  update_case parts =
      subst₂ (UpdatesKeep schema Fact)
      (sym (update_roll schema outside (record { edits = parts.edits; nested = map (λ (e : SomeNested). e.0) parts.nested }) ∙ ap (λ all. writing.update_step schema outside (record { edits = parts.edits; nested = all })) (nested_runs parts.nested)))
      (sym (update_fits_roll schema (record { edits = parts.edits; nested = map (λ (e : SomeNested). e.0) parts.nested }) ∙ ap (λ all. fitting.update_step schema (record { edits = parts.edits; nested = all })) (nested_fitting parts.nested)))
      (update_keeps schema Fact sound keeps outside parts.edits (map kept_nested parts.nested))

  nested_case : (parts : Nested-F Steps SomeCreates SomeNested SomeUpdates) → OfNested (roll-Nested (map-Nested Steps SomeCreates SomeNested SomeUpdates Step Create Nested Update (λ e. e.0) (λ e. e.0) (λ e. e.0) (λ e. e.0) parts))
  nested_case parts =
      subst₂ (FieldKeeps schema Fact)
      (sym (nested_roll schema outside (record { field = parts.field; steps = map (λ (e : Steps). e.0) parts.steps })
      ∙ ap (λ all. writing.nested_step (record { field = parts.field; steps = all })) (map_both (step_of schema outside) (λ (e : Steps). e.0) (λ (k : KeptStep schema Fact). k.run) kept_step (λ e. refl) parts.steps)))
      (sym (nested_fits_roll schema (record { field = parts.field; steps = map (λ (e : Steps). e.0) parts.steps })
      ∙ ap (λ all. fitting.nested_step schema (record { field = parts.field; steps = all })) (map_both (step_fits schema) (λ (e : Steps). e.0) (λ (k : KeptStep schema Fact). k.fit) kept_step (λ e. refl) parts.steps)))
      (steps_keep schema Fact parts.field (map kept_step parts.steps))

  -- ---- all trees

  pub create_all : (create : Create) → OfCreate create
  create_all = ind-Create OfStep OfCreate OfNested OfUpdate
      (λ x parts is. subst (λ z. OfStep (roll-Step z)) is (step_case parts))
      (λ x parts is. subst (λ z. OfCreate (roll-Create z)) is (create_case parts))
      (λ x parts is. subst (λ z. OfNested (roll-Nested z)) is (nested_case parts))
      (λ x parts is. subst (λ z. OfUpdate (roll-Update z)) is (update_case parts))

  pub update_all : (update : Update) → OfUpdate update
  update_all = ind-Update OfStep OfCreate OfNested OfUpdate
      (λ x parts is. subst (λ z. OfStep (roll-Step z)) is (step_case parts))
      (λ x parts is. subst (λ z. OfCreate (roll-Create z)) is (create_case parts))
      (λ x parts is. subst (λ z. OfNested (roll-Nested z)) is (nested_case parts))
      (λ x parts is. subst (λ z. OfUpdate (roll-Update z)) is (update_case parts))
