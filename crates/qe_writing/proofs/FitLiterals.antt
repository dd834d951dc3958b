-- A whole tree that fits: once its layers are laid open, it computes.
use Rattle.std.proofs.Common.{◌≡◌, [], ◌∷◌, true, codes, sym, ap, ◌∙◌}
use Rattle.qe_base.specs.declared.value.Value.TheVariants.{Text}
use Rattle.qe_base.specs.declared.write.Create.{Create, roll-Create}
use Rattle.qe_base.specs.declared.write.Step.{Step}
use Rattle.qe_base.specs.declared.write.Step.TheVariants as tree
use Rattle.qe_base.specs.declared.write.Step.TheOpen as step
use Rattle.qe_base.specs.declared.write.Step.TheOpen.{Create-F, Nested-F, Update-F}
use Rattle.qe_base.specs.declared.write.Nested.{Nested}
use Rattle.qe_base.specs.declared.write.Update.{Update}
use Rattle.qe_writing.specs.Samples.{team, number}
use Rattle.qe_writing.specs.FitSamples.{alone, whole_team}
use Rattle.qe_writing.specs.WriteFits.{FittingCreate, step_step, create_step, nested_step, create_fits}
use Rattle.qe_writing.proofs.FitLayers.{create_fits_roll, nested_fits, nested_fits_roll, step_fits, step_fits_roll}

abbrev new_member : Create
new_member = roll-Create (record { values = (0, number 7) ∷ []; nested = [] })

step_is : step_fits team (tree.Create new_member) ≡ step_step team (step.Create alone)
step_is =
    ap (step_fits team) (sym (tree.rolls-Create new_member))
    ∙ step_fits_roll team (step.Create new_member)
    ∙ ap (λ create. step_step team (step.Create create)) (create_fits_roll team (record { values = (0, number 7) ∷ []; nested = [] }))

abbrev steps : Nested-F Step Create Nested Update
steps = record { field = 2; steps = tree.Create new_member ∷ [] }

nested_is : nested_fits team (record { field = 2; steps = tree.Create new_member ∷ [] }) ≡ nested_step team (record { field = 2; steps = step_step team (step.Create alone) ∷ [] })
nested_is = nested_fits_roll team steps ∙ ap (λ one. nested_step team (record { field = 2; steps = one ∷ [] })) step_is

pub whole_fits : (create_fits team whole_team).fits 0 [] ≡ true
whole_fits =
    ap (λ (create : FittingCreate). create.fits 0 [])
    (create_fits_roll team (record { values = (0, number 1) ∷ (1, Text (codes "t")) ∷ []; nested = record { field = 2; steps = tree.Create new_member ∷ [] } ∷ [] })
    ∙ ap (λ nested. create_step team (record { values = (0, number 1) ∷ (1, Text (codes "t")) ∷ []; nested = nested ∷ [] })) nested_is)
