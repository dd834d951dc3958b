-- One layer of a tree of writes: what a fold makes of it, in the words of its step.
use Rattle.std.proofs.Common.{◌≡◌, map}
use Rattle.qe_base.specs.declared.answer.Outside.{Outside}
use Rattle.qe_base.specs.declared.write.Create.{Create, roll-Create}
use Rattle.qe_base.specs.declared.write.Update.{Update, roll-Update}
use Rattle.qe_base.specs.declared.write.Nested.{Nested, roll-Nested}
use Rattle.qe_base.specs.declared.write.Step.{Step}
use Rattle.qe_base.specs.declared.write.Step.TheViews.{roll-Step}
use Rattle.qe_base.specs.declared.write.Step.TheOpen.{Step-F, Create-F, Nested-F, Update-F}
use Rattle.qe_base.specs.declared.write.Step.TheFolds.{fold-Step, fold-Nested, fold-roll-Step, fold-roll-Create, fold-roll-Nested, fold-roll-Update, map-Step}
use Rattle.qe_base.specs.Schemas.{Schema}
use Rattle.qe_writing.specs.Write.{Run, Creates, FieldRuns, Updates, step_step, create_step, nested_step, update_step, create_of, update_of}

abbrev pub nested_of : Schema → Outside → Nested → FieldRuns
nested_of schema outside = fold-Nested Run Creates FieldRuns Updates (step_step schema) (create_step schema outside) nested_step (update_step schema outside)

abbrev pub step_of : Schema → Outside → Step → Run
step_of schema outside = fold-Step Run Creates FieldRuns Updates (step_step schema) (create_step schema outside) nested_step (update_step schema outside)

pub create_roll : (schema : Schema) (outside : Outside) (c : Create-F Step Create Nested Update) → create_of schema outside (roll-Create c) ≡ create_step schema outside (record { values = c.values; nested = map (nested_of schema outside) c.nested })
create_roll schema outside c = fold-roll-Create Run Creates FieldRuns Updates (step_step schema) (create_step schema outside) nested_step (update_step schema outside) c

pub update_roll : (schema : Schema) (outside : Outside) (u : Update-F Step Create Nested Update) → update_of schema outside (roll-Update u) ≡ update_step schema outside (record { edits = u.edits; nested = map (nested_of schema outside) u.nested })
update_roll schema outside u = fold-roll-Update Run Creates FieldRuns Updates (step_step schema) (create_step schema outside) nested_step (update_step schema outside) u

pub nested_roll : (schema : Schema) (outside : Outside) (n : Nested-F Step Create Nested Update) → nested_of schema outside (roll-Nested n) ≡ nested_step (record { field = n.field; steps = map (step_of schema outside) n.steps })
nested_roll schema outside n = fold-roll-Nested Run Creates FieldRuns Updates (step_step schema) (create_step schema outside) nested_step (update_step schema outside) n

pub step_roll : (schema : Schema) (outside : Outside) (s : Step-F Step Create Nested Update)
    → step_of schema outside (roll-Step s) ≡ step_step schema (map-Step Step Create Nested Update Run Creates FieldRuns Updates (step_of schema outside) (create_of schema outside) (nested_of schema outside) (update_of schema outside) s)
step_roll schema outside s = fold-roll-Step Run Creates FieldRuns Updates (step_step schema) (create_step schema outside) nested_step (update_step schema outside) s
