-- One layer of a tree of writes: whether it fits, in the words of its step.
use Rattle.std.proofs.Common.{◌≡◌, map}
use Rattle.qe_base.specs.declared.write.Create.{Create, roll-Create}
use Rattle.qe_base.specs.declared.write.Update.{Update, roll-Update}
use Rattle.qe_base.specs.declared.write.Nested.{Nested, roll-Nested}
use Rattle.qe_base.specs.declared.write.Step.{Step}
use Rattle.qe_base.specs.declared.write.Step.TheViews.{roll-Step}
use Rattle.qe_base.specs.declared.write.Step.TheOpen.{Step-F, Create-F, Nested-F, Update-F}
use Rattle.qe_base.specs.declared.write.Step.TheFolds.{fold-Step, fold-Nested, fold-roll-Step, fold-roll-Create, fold-roll-Nested, fold-roll-Update, map-Step}
use Rattle.qe_base.specs.Schemas.{Schema}
use Rattle.qe_writing.specs.WriteFits.{FittingStep, FittingCreate, FittingSteps, FittingUpdate, step_step, create_step, nested_step, update_step, create_fits, update_fits}

module _ (schema : Schema) where
  abbrev pub nested_fits : Nested → FittingSteps
  nested_fits = fold-Nested FittingStep FittingCreate FittingSteps FittingUpdate (step_step schema) (create_step schema) (nested_step schema) (update_step schema)

  abbrev pub step_fits : Step → FittingStep
  step_fits = fold-Step FittingStep FittingCreate FittingSteps FittingUpdate (step_step schema) (create_step schema) (nested_step schema) (update_step schema)

  pub create_fits_roll : (c : Create-F Step Create Nested Update) → create_fits schema (roll-Create c) ≡ create_step schema (record { values = c.values; nested = map nested_fits c.nested })
  create_fits_roll = fold-roll-Create FittingStep FittingCreate FittingSteps FittingUpdate (step_step schema) (create_step schema) (nested_step schema) (update_step schema)

  pub update_fits_roll : (u : Update-F Step Create Nested Update) → update_fits schema (roll-Update u) ≡ update_step schema (record { edits = u.edits; nested = map nested_fits u.nested })
  update_fits_roll = fold-roll-Update FittingStep FittingCreate FittingSteps FittingUpdate (step_step schema) (create_step schema) (nested_step schema) (update_step schema)

  pub nested_fits_roll : (n : Nested-F Step Create Nested Update) → nested_fits (roll-Nested n) ≡ nested_step schema (record { field = n.field; steps = map step_fits n.steps })
  nested_fits_roll = fold-roll-Nested FittingStep FittingCreate FittingSteps FittingUpdate (step_step schema) (create_step schema) (nested_step schema) (update_step schema)

  pub step_fits_roll : (s : Step-F Step Create Nested Update) → step_fits (roll-Step s) ≡ step_step schema (map-Step Step Create Nested Update FittingStep FittingCreate FittingSteps FittingUpdate step_fits (create_fits schema) nested_fits (update_fits schema) s)
  step_fits_roll = fold-roll-Step FittingStep FittingCreate FittingSteps FittingUpdate (step_step schema) (create_step schema) (nested_step schema) (update_step schema)
