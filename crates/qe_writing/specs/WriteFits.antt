-- What it takes that the parts of an operation that writes fit a table of the schema.
use Rattle.std.specs.Prelude as Prelude
use Rattle.std.specs.Prelude.{ℕ, ℤ, List, [], ◌∷◌, ◌++◌, true, false, ◌&&◌, ◌||◌, not, map, flat_map, length, nat_lt, ◌==◌, Option, Some, None, if◌then◌else◌}
use Rattle.std.specs.List.{list_all, list_any, enumerate_from}
use Rattle.qe_base.specs.declared.value.Value.{Value}
use Rattle.qe_base.specs.declared.schema.Choice.{Choice}
use Rattle.qe_base.specs.declared.schema.Column.{Column}
use Rattle.qe_base.specs.declared.schema.Field.{Field}
use Rattle.qe_base.specs.declared.schema.Field.TheVariants.{Scalar, Holder, Target, SideA, SideB}
use Rattle.qe_base.specs.declared.schema.Fill.{Fill}
use Rattle.qe_base.specs.declared.schema.Fill.TheVariants.{Absent, Literal, Counter, Now, Uuid}
use Rattle.qe_base.specs.declared.query.Unique.{Unique}
use Rattle.qe_base.specs.declared.write.Edit.{Edit}
use Rattle.qe_base.specs.declared.write.Edit.TheVariants.{Set, Add, Subtract, Multiply, Divide}
use Rattle.qe_base.specs.declared.write.Create.{Create}
use Rattle.qe_base.specs.declared.write.Update.{Update}
use Rattle.qe_base.specs.declared.write.Op.{Op}
use Rattle.qe_base.specs.declared.write.Op.TheVariants as op
use Rattle.qe_base.specs.declared.write.Step.TheOpen as step
use Rattle.qe_base.specs.declared.write.Step.TheOpen.{Step-F, Create-F, Nested-F, Update-F}
use Rattle.qe_base.specs.declared.write.Step.TheFolds.{fold-Create, fold-Update}
use Rattle.qe_base.specs.Schemas.{Schema}
use Rattle.qe_schema.specs.Fits.{fits_column, has_number}
use Rattle.qe_schema.specs.Tables.{table_at, is_model, column_at, field_at}
use Rattle.qe_reading.specs.Related.{led_to_by, is_some_such, is_to_many}
use Rattle.qe_reading.specs.Shape.{is_required}
use Rattle.qe_reading.specs.Fits.{Fitting, is_empty, is_none_or, filter_fits, unique_fits, pick_fits, read_fits}
use Rattle.qe_writing.specs.Numbers.{is_one_of, are_distinct}
use Rattle.qe_writing.specs.Ways.{relation_at}
use Rattle.qe_writing.specs.Held.{gives_reference, columns_given}
use Rattle.qe_writing.specs.Parts.{op_parts, is_few}

-- ---- what folds of the tree give

-- A row to be made: whether it has values alone, and whether it fits a table, with values for these columns from
-- its parent.
pub record FittingCreate : Type 0 where
  pub flat : Prelude.Bool
  pub fits : ℕ → List ℕ → Prelude.Bool

-- A row to be changed: whether it has edits alone, and whether it fits a table.
pub record FittingUpdate : Type 0 where
  pub flat : Prelude.Bool
  pub fits : ℕ → Prelude.Bool

-- A step: whether it gives the values of the reference that a row holds in its field, and whether it fits a field,
-- by the numbers of the table, the field and the table that it leads to, of a row that is new or not.
pub record FittingStep : Type 0 where
  pub gives : Prelude.Bool
  pub fits : Prelude.Bool → ℕ → ℕ → ℕ → Prelude.Bool

-- The steps of a field, likewise.
pub record FittingSteps : Type 0 where
  pub field : ℕ
  pub gives : Prelude.Bool
  pub fits : Prelude.Bool → ℕ → Prelude.Bool

abbrev pub FittingParts : Type 0
FittingParts = Step-F FittingStep FittingCreate FittingSteps FittingUpdate

-- ---- values and edits

-- the value is one of the column
abbrev pub value_fits : Schema → ℕ → (ℕ × Value) → Prelude.Bool
value_fits schema table given = is_some_such (λ column. fits_column schema.choices column given.1) (column_at schema table given.0)

-- a value of the column, or a number of its kind that it is reckoned with
abbrev pub edit_suits : List Choice → Column → Edit → Prelude.Bool
edit_suits choices column (Set value) = fits_column choices column value
edit_suits choices column (Add number) = has_number column.kind number
edit_suits choices column (Subtract number) = has_number column.kind number
edit_suits choices column (Multiply number) = has_number column.kind number
edit_suits choices column (Divide number) = has_number column.kind number

abbrev pub edit_fits : Schema → ℕ → (ℕ × Edit) → Prelude.Bool
edit_fits schema table edit = is_some_such (λ column. edit_suits schema.choices column edit.1) (column_at schema table edit.0)

abbrev pub is_absent : Fill → Prelude.Bool
is_absent Absent = true
is_absent (Literal value) = false
is_absent Counter = false
is_absent Now = false
is_absent Uuid = false

-- a column for which each new row has to be given a value
abbrev pub must_be_given : Column → Prelude.Bool
must_be_given column = not column.optional && not column.updated && is_absent column.fill

-- each column that must be given is one of these
abbrev pub are_enough : Schema → ℕ → List ℕ → Prelude.Bool
are_enough schema table columns = list_all (λ numbered. not (must_be_given numbered.1) || is_one_of columns numbered.0) (enumerate_from 0 (table_at schema table).columns)

-- ---- fields

-- the columns for which a row gives values to one that is made through this field
abbrev pub handed_columns : Schema → Option Field → List ℕ
handed_columns schema None = []
handed_columns schema (Some (Scalar column)) = []
handed_columns schema (Some (Holder number)) = []
handed_columns schema (Some (Target number)) = (relation_at schema number.0).child_columns
handed_columns schema (Some (SideA table)) = []
handed_columns schema (Some (SideB table)) = []

abbrev pub is_link_side : Field → Prelude.Bool
is_link_side (Scalar column) = false
is_link_side (Holder number) = false
is_link_side (Target number) = false
is_link_side (SideA table) = true
is_link_side (SideB table) = true

-- the field leads to any number of rows that refer to this one
abbrev pub has_children : Schema → ℕ → ℕ → Prelude.Bool
has_children schema table field = is_to_many schema table field && not (is_some_such is_link_side (field_at schema table field))

-- the row has to have a reference in this field
abbrev pub is_needed : Schema → ℕ → ℕ → Prelude.Bool
is_needed schema table field = is_some_such (is_required schema) (field_at schema table field)

-- the columns that the steps of fields give their row
abbrev pub taken_columns : Schema → ℕ → List FittingSteps → List ℕ
taken_columns schema table nested = flat_map (λ steps. columns_given schema table steps.field steps.gives) nested

-- ---- steps

-- a where stands exactly where a field leads to any number of rows
abbrev pub where_fits : Schema → Prelude.Bool → Option Unique → Fitting
where_fits schema false None table = true
where_fits schema false (Some at) table = false
where_fits schema true None table = false
where_fits schema true (Some at) table = unique_fits schema at table

-- a step on a field that leads to this other table
abbrev pub step_fits : Schema → FittingParts → Prelude.Bool → ℕ → ℕ → ℕ → Prelude.Bool
step_fits schema (step.Set uniques) new table field other = not new && is_to_many schema table field && list_all (λ at. unique_fits schema at other) uniques
step_fits schema (step.Disconnect at) new table field other = not new && not (is_needed schema table field) && where_fits schema (is_to_many schema table field) at other
step_fits schema (step.Delete at) new table field other = not new && not (is_needed schema table field) && where_fits schema (is_to_many schema table field) at other
step_fits schema (step.DeleteMany asked) new table field other = not new && is_to_many schema table field && filter_fits schema asked other
step_fits schema (step.Update at update) new table field other = not new && where_fits schema (is_to_many schema table field) at other && update.fits other
step_fits schema (step.UpdateMany asked update) new table field other = not new && is_to_many schema table field && filter_fits schema asked other && update.flat && update.fits other
step_fits schema (step.Upsert at create update) new table field other =
    not new && where_fits schema (is_to_many schema table field) at other && create.fits other (handed_columns schema (field_at schema table field)) && update.fits other
step_fits schema (step.Connect at) new table field other = unique_fits schema at other
step_fits schema (step.ConnectOrCreate at create) new table field other = unique_fits schema at other && create.fits other (handed_columns schema (field_at schema table field))
step_fits schema (step.Create create) new table field other = create.fits other (handed_columns schema (field_at schema table field))
step_fits schema (step.CreateMany creates) new table field other = has_children schema table field && list_all (λ create. create.flat && create.fits other (handed_columns schema (field_at schema table field))) creates

abbrev pub step_step : Schema → FittingParts → FittingStep
step_step schema one = record { gives = gives_reference one; fits = step_fits schema one }

abbrev pub has_one_at_most : {A : Type 0} → List A → Prelude.Bool
has_one_at_most [] = true
has_one_at_most (item ∷ items) = is_empty items

-- the field is one of a relation; one that leads to one row has one step at most
abbrev pub nested_step : Schema → Nested-F FittingStep FittingCreate FittingSteps FittingUpdate → FittingSteps
nested_step schema nested = record {
  field = nested.field;
  gives = list_any (λ one. one.gives) nested.steps;
  fits = λ new table.
      is_some_such (λ other. list_all (λ one. one.fits new table nested.field other) nested.steps) (led_to_by schema (field_at schema table nested.field))
      && (is_to_many schema table nested.field || has_one_at_most nested.steps);
}

-- ---- rows

-- each field once, and its steps fit
abbrev pub nested_fit : Prelude.Bool → ℕ → List FittingSteps → Prelude.Bool
nested_fit new table nested = are_distinct (map (λ steps. steps.field) nested) && list_all (λ steps. steps.fits new table) nested

-- no column is given twice, and each that must be given is, by the row's own values, its parent or its steps
abbrev pub columns_fit : Schema → ℕ → List ℕ → Prelude.Bool
columns_fit schema table columns = are_distinct columns && are_enough schema table columns

abbrev pub create_step : Schema → Create-F FittingStep FittingCreate FittingSteps FittingUpdate → FittingCreate
create_step schema create = record {
  flat = is_empty create.nested;
  fits = λ table given.
      is_model schema table && list_all (value_fits schema table) create.values && nested_fit true table create.nested
      && columns_fit schema table (map (λ one. one.0) create.values ++ given ++ taken_columns schema table create.nested);
}

abbrev pub update_step : Schema → Update-F FittingStep FittingCreate FittingSteps FittingUpdate → FittingUpdate
update_step schema update = record {
  flat = is_empty update.nested;
  fits = λ table.
      is_model schema table && list_all (edit_fits schema table) update.edits && nested_fit false table update.nested
      && are_distinct (map (λ one. one.0) update.edits ++ taken_columns schema table update.nested);
}

abbrev pub create_fits : Schema → Create → FittingCreate
create_fits schema = fold-Create FittingStep FittingCreate FittingSteps FittingUpdate (step_step schema) (create_step schema) (nested_step schema) (update_step schema)

abbrev pub update_fits : Schema → Update → FittingUpdate
update_fits schema = fold-Update FittingStep FittingCreate FittingSteps FittingUpdate (step_step schema) (create_step schema) (nested_step schema) (update_step schema)

-- ---- operations

-- an operation that writes, and fits the schema; many rows at once are made and changed without nested steps
abbrev pub write_fits : Schema → Op → Prelude.Bool
write_fits schema (op.FindUnique table at strict pick) = false
write_fits schema (op.FindFirst table look strict pick) = false
write_fits schema (op.FindMany table look pick) = false
write_fits schema (op.Count table look) = false
write_fits schema (op.Create table tree pick) = (create_fits schema tree).fits table.0 [] && pick_fits schema pick table.0
write_fits schema (op.CreateMany table trees pick) = is_model schema table.0 && list_all (λ tree. (create_fits schema tree).flat && (create_fits schema tree).fits table.0 []) trees && is_none_or (λ pick. pick_fits schema pick table.0) pick
write_fits schema (op.Update table at tree pick) = unique_fits schema at table.0 && (update_fits schema tree).fits table.0 && pick_fits schema pick table.0
write_fits schema (op.UpdateMany table asked tree) = filter_fits schema asked table.0 && (update_fits schema tree).flat && (update_fits schema tree).fits table.0
write_fits schema (op.Upsert table at create update pick) = unique_fits schema at table.0 && (create_fits schema create).fits table.0 [] && (update_fits schema update).fits table.0 && pick_fits schema pick table.0
write_fits schema (op.Delete table at pick) = is_model schema table.0 && unique_fits schema at table.0 && pick_fits schema pick table.0
write_fits schema (op.DeleteMany table asked) = is_model schema table.0 && filter_fits schema asked table.0

-- the operation fits the schema
abbrev pub op_fits : Schema → Op → Prelude.Bool
op_fits schema op = (read_fits schema op || write_fits schema op) && is_few (op_parts op)

-- a batch has 1 to 64 operations
abbrev pub batch_fits : Schema → List Op → Prelude.Bool
batch_fits schema ops = not (is_empty ops) && nat_lt (length ops) 65 && list_all (op_fits schema) ops

-- the table that an operation is on
abbrev pub op_table : Op → ℕ
op_table (op.FindUnique table at strict pick) = table.0
op_table (op.FindFirst table look strict pick) = table.0
op_table (op.FindMany table look pick) = table.0
op_table (op.Count table look) = table.0
op_table (op.Create table tree pick) = table.0
op_table (op.CreateMany table trees pick) = table.0
op_table (op.Update table at tree pick) = table.0
op_table (op.UpdateMany table asked tree) = table.0
op_table (op.Upsert table at create update pick) = table.0
op_table (op.Delete table at pick) = table.0
op_table (op.DeleteMany table asked) = table.0
