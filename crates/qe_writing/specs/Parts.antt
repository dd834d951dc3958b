-- How many rows the parts of an operation make at the most: its parts of the type Create.
use Rattle.std.specs.Prelude.{ℕ, suc, ◌+◌, map, sum, Bool, nat_lt}
use Rattle.qe_base.specs.declared.write.Create.{Create}
use Rattle.qe_base.specs.declared.write.Update.{Update}
use Rattle.qe_base.specs.declared.write.Op.{Op}
use Rattle.qe_base.specs.declared.write.Op.TheVariants as op
use Rattle.qe_base.specs.declared.write.Step.TheOpen as step
use Rattle.qe_base.specs.declared.write.Step.TheOpen.{Step-F, Create-F, Nested-F, Update-F}
use Rattle.qe_base.specs.declared.write.Step.TheFolds.{fold-Create, fold-Update}

abbrev pub step_parts : Step-F ℕ ℕ ℕ ℕ → ℕ
step_parts (step.Set uniques) = 0
step_parts (step.Disconnect at) = 0
step_parts (step.Delete at) = 0
step_parts (step.DeleteMany asked) = 0
step_parts (step.Update at update) = update
step_parts (step.UpdateMany asked update) = update
step_parts (step.Upsert at create update) = create + update
step_parts (step.Connect at) = 0
step_parts (step.ConnectOrCreate at create) = create
step_parts (step.Create create) = create
step_parts (step.CreateMany creates) = sum creates

abbrev pub nested_parts : Nested-F ℕ ℕ ℕ ℕ → ℕ
nested_parts nested = sum nested.steps

-- the row itself, and those of its steps
abbrev pub new_parts : Create-F ℕ ℕ ℕ ℕ → ℕ
new_parts create = suc (sum create.nested)

abbrev pub old_parts : Update-F ℕ ℕ ℕ ℕ → ℕ
old_parts update = sum update.nested

abbrev pub create_parts : Create → ℕ
create_parts = fold-Create ℕ ℕ ℕ ℕ step_parts new_parts nested_parts old_parts

abbrev pub update_parts : Update → ℕ
update_parts = fold-Update ℕ ℕ ℕ ℕ step_parts new_parts nested_parts old_parts

abbrev pub op_parts : Op → ℕ
op_parts (op.FindUnique table at strict pick) = 0
op_parts (op.FindFirst table look strict pick) = 0
op_parts (op.FindMany table look pick) = 0
op_parts (op.Count table look) = 0
op_parts (op.Create table tree pick) = create_parts tree
op_parts (op.CreateMany table trees pick) = sum (map create_parts trees)
op_parts (op.Update table at tree pick) = update_parts tree
op_parts (op.UpdateMany table asked tree) = update_parts tree
op_parts (op.Upsert table at create update pick) = create_parts create + update_parts update
op_parts (op.Delete table at pick) = 0
op_parts (op.DeleteMany table asked) = 0

-- fewer than 2^24
abbrev pub is_few : ℕ → Bool
is_few parts = nat_lt parts 16777216
