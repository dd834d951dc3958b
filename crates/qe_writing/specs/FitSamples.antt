-- Trees over the sample schemas, of which some fit.
use Rattle.std.specs.Prelude.{ℕ, List, [], ◌∷◌, map, codes}
use Rattle.qe_base.specs.declared.value.Value.{Value}
use Rattle.qe_base.specs.declared.value.Value.TheVariants.{Text}
use Rattle.qe_base.specs.declared.write.Edit.{Edit}
use Rattle.qe_base.specs.declared.write.Create.{Create, roll-Create}
use Rattle.qe_base.specs.declared.write.Step.TheVariants as tree
use Rattle.qe_writing.specs.Samples.{team, number}
use Rattle.qe_writing.specs.WriteFits.{FittingCreate, FittingSteps, FittingUpdate, FittingParts, step_step, create_step, nested_step, update_step}

-- steps on one field
abbrev pub steps_in : ℕ → List FittingParts → List FittingSteps
steps_in field steps = nested_step team (record { field = field; steps = map (step_step team) steps }) ∷ []

abbrev pub new : List (ℕ × Value) → List FittingSteps → FittingCreate
new values nested = create_step team (record { values = values; nested = nested })

abbrev pub changed : List (ℕ × Edit) → List FittingSteps → FittingUpdate
changed edits nested = update_step team (record { edits = edits; nested = nested })

-- a team with these steps on its members
abbrev pub team_with : List FittingParts → FittingCreate
team_with steps = new ((0, number 1) ∷ (1, Text (codes "t")) ∷ []) (steps_in 2 steps)

-- a member without a team
abbrev pub alone : FittingCreate
alone = new ((0, number 7) ∷ []) []

-- a member of team 1, by the column
abbrev pub placed : FittingCreate
placed = new ((0, number 7) ∷ (1, number 1) ∷ []) []

-- the same tree, of a team with one new member, as it stands in an operation
abbrev pub whole_team : Create
whole_team = roll-Create (record {
  values = (0, number 1) ∷ (1, Text (codes "t")) ∷ [];
  nested = record { field = 2; steps = tree.Create (roll-Create (record { values = (0, number 7) ∷ []; nested = [] })) ∷ [] } ∷ [];
})
