-- The reference that a row holds in a field, and the steps that give it.
use Rattle.std.specs.Prelude.{ℕ, Bool, true, false, not, List, [], Option, Some, None, if◌then◌else◌}
use Rattle.qe_base.specs.declared.schema.Field.{Field}
use Rattle.qe_base.specs.declared.schema.Field.TheVariants.{Scalar, Holder, Target, SideA, SideB}
use Rattle.qe_base.specs.declared.write.Step.TheOpen as step
use Rattle.qe_base.specs.declared.write.Step.TheOpen.{Step-F}
use Rattle.qe_base.specs.Schemas.{Schema}
use Rattle.qe_schema.specs.Tables.{field_at}
use Rattle.qe_writing.specs.Ways.{relation_at}

-- the columns of the reference that a row holds in this field
abbrev pub held_columns : Schema → Option Field → List ℕ
held_columns schema None = []
held_columns schema (Some (Scalar column)) = []
held_columns schema (Some (Holder number)) = (relation_at schema number.0).child_columns
held_columns schema (Some (Target number)) = []
held_columns schema (Some (SideA table)) = []
held_columns schema (Some (SideB table)) = []

-- an update of rows that a field leads to
abbrev pub is_update : {S C N U : Type 0} → Step-F S C N U → Bool
is_update (step.Set uniques) = false
is_update (step.Disconnect at) = false
is_update (step.Delete at) = false
is_update (step.DeleteMany asked) = false
is_update (step.Update at update) = true
is_update (step.UpdateMany asked update) = true
is_update (step.Upsert at create update) = false
is_update (step.Connect at) = false
is_update (step.ConnectOrCreate at create) = false
is_update (step.Create create) = false
is_update (step.CreateMany creates) = false

-- each other step gives the reference that its field holds, also where it leaves it as it is
abbrev pub gives_reference : {S C N U : Type 0} → Step-F S C N U → Bool
gives_reference one = not (is_update one)

-- the columns that the steps of a field give
abbrev pub columns_given : Schema → ℕ → ℕ → Bool → List ℕ
columns_given schema table field gives = if gives then held_columns schema (field_at schema table field) else []
