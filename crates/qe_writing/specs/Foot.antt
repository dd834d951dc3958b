-- The tables that an operation depends on, and those that it may write.
use Rattle.std.specs.Prelude.{ℕ, Bool, true, false, ◌&&◌, List, [], ◌∷◌, ◌++◌, map, filter, length, Option, Some, None, if◌then◌else◌, ◌==◌}
use Rattle.std.specs.List.{list_any, flat_map, filter_map, enumerate_from, range_with_len}
use Rattle.qe_base.specs.declared.query.Pick.{Pick}
use Rattle.qe_base.specs.declared.schema.Column.{Column}
use Rattle.qe_base.specs.declared.schema.Field.{Field}
use Rattle.qe_base.specs.declared.schema.Field.TheVariants.{Scalar, Holder, Target, SideA, SideB}
use Rattle.qe_base.specs.declared.write.Create.{Create}
use Rattle.qe_base.specs.declared.write.Update.{Update}
use Rattle.qe_base.specs.declared.write.Op.{Op}
use Rattle.qe_base.specs.declared.write.Op.TheVariants as op
use Rattle.qe_base.specs.declared.write.Step.TheOpen as step
use Rattle.qe_base.specs.declared.write.Step.TheOpen.{Step-F, Create-F, Nested-F, Update-F}
use Rattle.qe_base.specs.declared.write.Step.TheFolds.{fold-Create, fold-Update}
use Rattle.qe_base.specs.Schemas.{Schema}
use Rattle.qe_schema.specs.Tables.{table_at, field_at}
use Rattle.qe_reading.specs.Related.{other_table}
use Rattle.qe_writing.specs.Ways.{relation_at}
use Rattle.qe_writing.specs.Held.{held_columns, is_update}
use Rattle.qe_writing.specs.Touched.{Part, Parts, seen, written, changes_of, deletes_of}
use Rattle.qe_writing.specs.Sees.{sees_filter, sees_unique, sees_at, sees_look, sees_pick}

-- ---- what the parts of a tree touch

-- a row of a table, made or updated
abbrev pub Rows : Type 0
Rows = ℕ → Parts

-- a step on the field of a table
abbrev pub StepRows : Type 0
StepRows = ℕ → ℕ → Parts

pub record FieldRows : Type 0 where
  pub field : ℕ
  pub steps : List StepRows

abbrev pub StepTouches : Type 0
StepTouches = Step-F StepRows Rows FieldRows Rows

-- the uniques and filters in a step, which are of the table that its field leads to
abbrev pub sees_in : Schema → ℕ → StepTouches → Parts
sees_in schema table (step.Set uniques) = flat_map (sees_unique schema table) uniques
sees_in schema table (step.Disconnect at) = sees_at schema table at
sees_in schema table (step.Delete at) = sees_at schema table at
sees_in schema table (step.DeleteMany asked) = sees_filter schema table asked
sees_in schema table (step.Update at update) = sees_at schema table at
sees_in schema table (step.UpdateMany asked update) = sees_filter schema table asked
sees_in schema table (step.Upsert at create update) = sees_at schema table at
sees_in schema table (step.Connect at) = sees_unique schema table at
sees_in schema table (step.ConnectOrCreate at create) = sees_unique schema table at
sees_in schema table (step.Create create) = []
sees_in schema table (step.CreateMany creates) = []

-- the rows that a step makes, updates or deletes in the table that its field leads to
abbrev pub rows_in : Schema → ℕ → StepTouches → Parts
rows_in schema table (step.Set uniques) = []
rows_in schema table (step.Disconnect at) = []
rows_in schema table (step.Delete at) = deletes_of schema table
rows_in schema table (step.DeleteMany asked) = deletes_of schema table
rows_in schema table (step.Update at update) = update table
rows_in schema table (step.UpdateMany asked update) = update table
rows_in schema table (step.Upsert at create update) = create table ++ update table
rows_in schema table (step.Connect at) = []
rows_in schema table (step.ConnectOrCreate at create) = create table
rows_in schema table (step.Create create) = create table
rows_in schema table (step.CreateMany creates) = flat_map (λ create. create table) creates

-- a step that attaches or detaches rows, and not only updates or deletes them
abbrev pub relates : StepTouches → Bool
relates (step.Set uniques) = true
relates (step.Disconnect at) = true
relates (step.Delete at) = false
relates (step.DeleteMany asked) = false
relates (step.Update at update) = false
relates (step.UpdateMany asked update) = false
relates (step.Upsert at create update) = true
relates (step.Connect at) = true
relates (step.ConnectOrCreate at create) = true
relates (step.Create create) = true
relates (step.CreateMany creates) = true

abbrev pub parts_if : Bool → Parts → Parts
parts_if false parts = []
parts_if true parts = parts

-- an update leaves the pairs of a link as they are
abbrev pub link_part : Bool → ℕ → Part
link_part true link = seen link
link_part false link = written link

-- what holds the relation: the child's reference, or the link table
abbrev pub through : Schema → StepTouches → Field → Parts
through schema one (Scalar column) = []
through schema one (Holder relation) = []
through schema one (Target relation) = parts_if (relates one) (changes_of schema (relation_at schema relation.0).child.0 (relation_at schema relation.0).child_columns)
through schema one (SideA link) = link_part (is_update one) link.0 ∷ []
through schema one (SideB link) = link_part (is_update one) link.0 ∷ []

abbrev pub through_known : Schema → StepTouches → Option Field → Parts
through_known schema one None = []
through_known schema one (Some field) = through schema one field

-- a step on the field of a table: the other model is looked at, and written by the rows that are made,
-- updated or deleted there
abbrev pub step_rows : Schema → StepTouches → StepRows
step_rows schema one table field =
    seen (other_table schema table field) ∷ (sees_in schema (other_table schema table field) one ++ rows_in schema (other_table schema table field) one ++ through_known schema one (field_at schema table field))

abbrev pub nested_rows : Nested-F StepRows Rows FieldRows Rows → FieldRows
nested_rows nested = record { field = nested.field; steps = nested.steps }

abbrev pub all_steps : List FieldRows → Rows
all_steps nested table = flat_map (λ one. flat_map (λ run. run table one.field) one.steps) nested

-- ---- rows with their steps

abbrev pub create_rows : Schema → Create-F StepRows Rows FieldRows Rows → Rows
create_rows schema create table = written table ∷ all_steps create.nested table

-- nothing, where no step stands there
abbrev pub where_some : List StepRows → List ℕ → List ℕ
where_some [] columns = []
where_some (run ∷ runs) columns = columns

abbrev pub columns_of_steps : Schema → ℕ → FieldRows → List ℕ
columns_of_steps schema table nested = where_some nested.steps (held_columns schema (field_at schema table nested.field))

abbrev pub updated_number : (ℕ × Column) → Option ℕ
updated_number numbered = if numbered.1.updated then Some numbered.0 else None

-- the columns that each update sets
abbrev pub updated_columns : Schema → ℕ → List ℕ
updated_columns schema table = filter_map updated_number (enumerate_from 0 (table_at schema table).columns)

-- the columns that are edited, set by each update, and given by steps
abbrev pub update_rows : Schema → Update-F StepRows Rows FieldRows Rows → Rows
update_rows schema update table =
    changes_of schema table (map (λ one. one.0) update.edits ++ updated_columns schema table ++ flat_map (columns_of_steps schema table) update.nested) ++ all_steps update.nested table

abbrev pub creates_on : Schema → Create → Rows
creates_on schema = fold-Create StepRows Rows FieldRows Rows (step_rows schema) (create_rows schema) nested_rows (update_rows schema)

abbrev pub updates_on : Schema → Update → Rows
updates_on schema = fold-Update StepRows Rows FieldRows Rows (step_rows schema) (create_rows schema) nested_rows (update_rows schema)

-- ---- operations

abbrev pub sees_pick_if : Schema → ℕ → Option Pick → Parts
sees_pick_if schema table None = []
sees_pick_if schema table (Some pick) = sees_pick schema table pick

abbrev pub parts_of : Schema → Op → Parts
parts_of schema (op.FindUnique table at strict pick) = sees_unique schema table.0 at ++ sees_pick schema table.0 pick
parts_of schema (op.FindFirst table look strict pick) = sees_look schema table.0 look ++ sees_pick schema table.0 pick
parts_of schema (op.FindMany table look pick) = sees_look schema table.0 look ++ sees_pick schema table.0 pick
parts_of schema (op.Count table look) = sees_look schema table.0 look
parts_of schema (op.Create table tree pick) = creates_on schema tree table.0 ++ sees_pick schema table.0 pick
parts_of schema (op.CreateMany table trees pick) = written table.0 ∷ (flat_map (λ tree. creates_on schema tree table.0) trees ++ sees_pick_if schema table.0 pick)
parts_of schema (op.Update table at tree pick) = sees_unique schema table.0 at ++ updates_on schema tree table.0 ++ sees_pick schema table.0 pick
parts_of schema (op.UpdateMany table asked tree) = sees_filter schema table.0 asked ++ updates_on schema tree table.0
parts_of schema (op.Upsert table at create update pick) = sees_unique schema table.0 at ++ creates_on schema create table.0 ++ updates_on schema update table.0 ++ sees_pick schema table.0 pick
parts_of schema (op.Delete table at pick) = sees_unique schema table.0 at ++ deletes_of schema table.0 ++ sees_pick schema table.0 pick
parts_of schema (op.DeleteMany table asked) = sees_filter schema table.0 asked ++ deletes_of schema table.0

abbrev pub is_part : ℕ → Part → Bool
is_part table part = part.table == table

-- the tables that the operation depends on, in order
abbrev pub foot_of : Schema → Op → List ℕ
foot_of schema op = filter (λ table. list_any (is_part table) (parts_of schema op)) (range_with_len 0 (length schema.tables))

-- the tables that it may write, in order
abbrev pub writes_of : Schema → Op → List ℕ
writes_of schema op = filter (λ table. list_any (λ part. is_part table part && part.written) (parts_of schema op)) (range_with_len 0 (length schema.tables))
