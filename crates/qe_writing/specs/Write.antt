-- Nested writes: a row with the steps on its relations, strictly one after another.
use Rattle.std.specs.Prelude.{ℕ, ◌+◌, Bool, true, false, not, List, [], ◌∷◌, ◌++◌, map, filter, length, zip, Option, Some, None, Result, Ok, Err, if◌then◌else◌, ◌==◌}
use Rattle.std.specs.List.{list_any, flat_map}
use Rattle.qe_base.specs.declared.query.Unique.{Unique}
use Rattle.qe_base.specs.declared.value.Row.{Row}
use Rattle.qe_base.specs.declared.value.Value.{Value}
use Rattle.qe_base.specs.declared.schema.Field.{Field}
use Rattle.qe_base.specs.declared.schema.Field.TheVariants.{Scalar, Holder, Target, SideA, SideB}
use Rattle.qe_base.specs.declared.answer.Outside.{Outside}
use Rattle.qe_base.specs.declared.answer.Rule.{Rule}
use Rattle.qe_base.specs.declared.answer.Rule.TheVariants as rule
use Rattle.qe_base.specs.declared.write.Edit.{Edit}
use Rattle.qe_base.specs.declared.write.Edit.TheVariants as edit
use Rattle.qe_base.specs.declared.write.Create.{Create}
use Rattle.qe_base.specs.declared.write.Update.{Update}
use Rattle.qe_base.specs.declared.write.Step.TheOpen as step
use Rattle.qe_base.specs.declared.write.Step.TheOpen.{Step-F, Create-F, Nested-F, Update-F}
use Rattle.qe_base.specs.declared.write.Step.TheFolds.{fold-Create, fold-Update}
use Rattle.qe_base.specs.Schemas.{Schema}
use Rattle.qe_schema.specs.Columns.{Values, at_columns}
use Rattle.qe_schema.specs.Put.{put_of}
use Rattle.qe_schema.specs.Tables.{Tables, table_at, id_of}
use Rattle.qe_reading.specs.Related.{related, one_related}
use Rattle.qe_writing.specs.WriteState.{WriteState, Followed, ◌>>=◌, table_id, follow, follow_all, unfollow, or_absent, present}
use Rattle.qe_writing.specs.Fill.{Filled, filled}
use Rattle.qe_writing.specs.Edits.{edited}
use Rattle.qe_writing.specs.Doomed.{place_of}
use Rattle.qe_writing.specs.Delete.{delete_of, nulls}
use Rattle.qe_writing.specs.Change.{change_of}
use Rattle.qe_writing.specs.Given.{with_columns}
use Rattle.qe_writing.specs.Held.{gives_reference, columns_given}
use Rattle.qe_writing.specs.Ways.{Way, relation_at, each_row, is_row, to_children, to_linked}
use Rattle.qe_writing.specs.Finding.{found, all_found, passing}

-- ---- what the parts of a tree mean

-- a row that the own row is to refer to, by the place at which it is followed
pub record Attached : Type 0 where
  pub relation : ℕ
  pub place : ℕ

-- the state, and what the row that is being written has attached so far
pub record Made : Type 0 where
  pub state : WriteState
  pub attached : List Attached

abbrev pub made_of : WriteState → List Attached → Made
made_of state attached = record { state = state; attached = attached }

-- Where a step stands: on the field that holds a reference, before the own row is put (a new row has no place
-- yet), or on another field, after it.
pub data Spot : Type 0 where
  Holding : (table field relation : ℕ) (own : Option ℕ) → Spot
  Reaching : (way : Way) (table field own : ℕ) → Spot

abbrev pub Makes : Type 0
Makes = Made → Result Made Rule

-- a new row of a table, with values that the parent gives; it is followed at the next place
abbrev pub Creates : Type 0
Creates = ℕ → List (ℕ × Value) → WriteState → Result WriteState Rule

-- an update of the row of a table that is followed at a place
abbrev pub Updates : Type 0
Updates = ℕ → ℕ → WriteState → Result WriteState Rule

-- a step, by its place among the kinds of steps, whether it gives the reference that its field holds, and what it does
pub record Run : Type 0 where
  pub kind : ℕ
  pub gives : Bool
  pub run : Spot → Makes

pub record FieldRuns : Type 0 where
  pub field : ℕ
  pub steps : List Run

abbrev pub StepParts : Type 0
StepParts = Step-F Run Creates FieldRuns Updates

-- ---- steps on a field that holds the reference

abbrev pub parent_table : Schema → ℕ → ℕ
parent_table schema number = (relation_at schema number).parent.0

-- the row at the next place is followed on, to be referred to when the own row is put
abbrev pub attaching : ℕ → Made → WriteState → Made
attaching number made state = made_of state (made.attached ++ record { relation = number; place = length made.state.followed } ∷ [])

abbrev pub attach_parent : Schema → ℕ → Made → Row → Result Made Rule
attach_parent schema number made parent = Ok (attaching number made (follow schema (parent_table schema number) parent made.state))

abbrev pub make_parent : Schema → ℕ → Made → Creates → Result Made Rule
make_parent schema number made create = create (parent_table schema number) [] made.state >>= λ state. Ok (attaching number made state)

abbrev pub attach_or_make : Schema → ℕ → Made → Creates → Option Row → Result Made Rule
attach_or_make schema number made create None = make_parent schema number made create
attach_or_make schema number made create (Some parent) = attach_parent schema number made parent

-- what is attached stays
abbrev pub keeping : Made → Result WriteState Rule → Result Made Rule
keeping made result = result >>= λ state. Ok (made_of state made.attached)

-- the row is followed while it is updated
abbrev pub update_row : Schema → ℕ → Updates → Row → WriteState → Result WriteState Rule
update_row schema table update row state = update table (length state.followed) (follow schema table row state) >>= λ after. Ok (unfollow (length state.followed) after)

abbrev pub update_or_make : Schema → ℕ → Made → Creates → Updates → Option Row → Result Made Rule
update_or_make schema number made create update None = make_parent schema number made create
update_or_make schema number made create update (Some parent) = keeping made (update_row schema (parent_table schema number) update parent made.state)

-- the own row's reference becomes null, at once and with all that follows
abbrev pub null_own : Schema → ℕ → ℕ → Row → WriteState → Result WriteState Rule
null_own schema table number row state = change_of schema table (id_of (table_at schema table) row) (with_columns (relation_at schema number).child_columns (nulls (relation_at schema number).child_columns) row) state

abbrev pub null_own_if : Schema → ℕ → ℕ → Row → Option Row → WriteState → Result WriteState Rule
null_own_if schema table number row None state = Ok state
null_own_if schema table number row (Some parent) state = null_own schema table number row state

-- the reference becomes null, and then the row that it led to is deleted
abbrev pub delete_parent : Schema → ℕ → ℕ → Row → Row → WriteState → Result WriteState Rule
delete_parent schema table number row parent state = do
  let place = length state.followed
  state ← null_own schema table number row (follow schema (parent_table schema number) parent state)
  parent ← present schema (parent_table schema number) place state
  state ← delete_of schema (place_of (parent_table schema number) parent ∷ []) state
  Ok (unfollow place state)

-- steps of the own row, which is there
abbrev pub on_held : Schema → ℕ → ℕ → ℕ → Row → StepParts → Made → Result Made Rule
on_held schema table field number row (step.Set uniques) made = Ok made
on_held schema table field number row (step.Disconnect at) made = keeping made (null_own_if schema table number row (one_related schema made.state.tables table field row) made.state)
on_held schema table field number row (step.Delete at) made =
    or_absent (parent_table schema number) (one_related schema made.state.tables table field row) >>= λ parent. keeping made (delete_parent schema table number row parent made.state)
on_held schema table field number row (step.DeleteMany filter) made = Ok made
on_held schema table field number row (step.Update at update) made =
    or_absent (parent_table schema number) (one_related schema made.state.tables table field row) >>= λ parent. keeping made (update_row schema (parent_table schema number) update parent made.state)
on_held schema table field number row (step.UpdateMany filter update) made = Ok made
on_held schema table field number row (step.Upsert at create update) made = update_or_make schema number made create update (one_related schema made.state.tables table field row)
on_held schema table field number row (step.Connect at) made = or_absent (parent_table schema number) (found schema (parent_table schema number) at made.state) >>= attach_parent schema number made
on_held schema table field number row (step.ConnectOrCreate at create) made = attach_or_make schema number made create (found schema (parent_table schema number) at made.state)
on_held schema table field number row (step.Create create) made = make_parent schema number made create
on_held schema table field number row (step.CreateMany creates) made = Ok made

-- steps of a row that is yet to be made
abbrev pub on_new : Schema → ℕ → StepParts → Made → Result Made Rule
on_new schema number (step.Set uniques) made = Ok made
on_new schema number (step.Disconnect at) made = Ok made
on_new schema number (step.Delete at) made = Ok made
on_new schema number (step.DeleteMany filter) made = Ok made
on_new schema number (step.Update at update) made = Ok made
on_new schema number (step.UpdateMany filter update) made = Ok made
on_new schema number (step.Upsert at create update) made = Ok made
on_new schema number (step.Connect at) made = or_absent (parent_table schema number) (found schema (parent_table schema number) at made.state) >>= attach_parent schema number made
on_new schema number (step.ConnectOrCreate at create) made = attach_or_make schema number made create (found schema (parent_table schema number) at made.state)
on_new schema number (step.Create create) made = make_parent schema number made create
on_new schema number (step.CreateMany creates) made = Ok made

-- ---- steps on the other fields

-- the row at a where, which has to be related
abbrev pub related_at : Schema → Way → ℕ → ℕ → Row → Option Unique → WriteState → Result Row Rule
related_at schema way table field own None state = or_absent way.other (one_related schema state.tables table field own)
related_at schema way table field own (Some at) state =
    or_absent way.other (found schema way.other at state)
    >>= λ row. if list_any (is_row schema way.other row) (related schema state.tables table field own) then Ok row else Err (rule.Unconnected (table_id table) field)

-- the row, if it is such
abbrev pub only_such : (Row → Bool) → Option Row → Option Row
only_such test None = None
only_such test (Some row) = if test row then Some row else None

abbrev pub find_related : Schema → Way → ℕ → ℕ → Row → Option Unique → WriteState → Option Row
find_related schema way table field own None state = one_related schema state.tables table field own
find_related schema way table field own (Some at) state = only_such (λ row. list_any (is_row schema way.other row) (related schema state.tables table field own)) (found schema way.other at state)

abbrev pub detach_if : Schema → Way → ℕ → Option Row → WriteState → Result WriteState Rule
detach_if schema way own None state = Ok state
detach_if schema way own (Some row) state = way.detach own row state

-- the rows that are followed from this place on are attached
abbrev pub attach_from : Way → ℕ → List Row → ℕ → WriteState → Result WriteState Rule
attach_from way own [] place state = Ok state
attach_from way own (row ∷ rows) place state = way.attach own place state >>= attach_from way own rows (place + 1)

abbrev pub attach_row : Schema → Way → ℕ → Row → WriteState → Result WriteState Rule
attach_row schema way own row state = way.attach own (length state.followed) (follow schema way.other row state) >>= λ after. Ok (unfollow (length state.followed) after)

-- other rows that are related are detached, and then these attached
abbrev pub set_rows : Schema → Way → ℕ → ℕ → ℕ → Row → List Row → WriteState → Result WriteState Rule
set_rows schema way table field own parent rows state = do
  let place = length state.followed
  state ← each_row schema way.other (way.detach own) (filter (λ row. not (list_any (is_row schema way.other row) rows)) (related schema state.tables table field parent)) (follow_all schema way.other rows state)
  state ← attach_from way own rows place state
  Ok (unfollow place state)

-- room is made, and a row is made with what the own row gives it
abbrev pub make_row : Schema → ℕ → Way → ℕ → Creates → WriteState → Result WriteState Rule
make_row schema table way own create state = do
  let place = length state.followed
  state ← way.make_room (λ row. false) own state
  parent ← present schema table own state
  state ← create way.other (way.given parent) state
  state ← way.settle own place state
  Ok (unfollow place state)

abbrev pub make_rows : Schema → ℕ → Way → ℕ → List Creates → WriteState → Result WriteState Rule
make_rows schema table way own [] state = Ok state
make_rows schema table way own (create ∷ creates) state = make_row schema table way own create state >>= make_rows schema table way own creates

abbrev pub attach_or_make_row : Schema → ℕ → Way → ℕ → Creates → Option Row → WriteState → Result WriteState Rule
attach_or_make_row schema table way own create None state = make_row schema table way own create state
attach_or_make_row schema table way own create (Some row) state = attach_row schema way own row state

abbrev pub update_or_make_row : Schema → ℕ → Way → ℕ → Creates → Updates → Option Row → WriteState → Result WriteState Rule
update_or_make_row schema table way own create update None state = make_row schema table way own create state
update_or_make_row schema table way own create update (Some row) state = update_row schema way.other update row state

-- the rows in order, each under the id that it has then
abbrev pub update_rows : Schema → ℕ → Updates → List Row → WriteState → Result WriteState Rule
update_rows schema table update rows state = each_row schema table (λ row state. update_row schema table update row state) rows state

abbrev pub on_related : Schema → Way → ℕ → ℕ → ℕ → Row → StepParts → WriteState → Result WriteState Rule
on_related schema way table field own parent (step.Set uniques) state = all_found schema way.other uniques state >>= λ rows. set_rows schema way table field own parent rows state
on_related schema way table field own parent (step.Disconnect at) state = detach_if schema way own (find_related schema way table field parent at state) state
on_related schema way table field own parent (step.Delete at) state = related_at schema way table field parent at state >>= λ row. delete_of schema (place_of way.other row ∷ []) state
on_related schema way table field own parent (step.DeleteMany filter) state = delete_of schema (map (place_of way.other) (passing schema way.other filter (related schema state.tables table field parent) state)) state
on_related schema way table field own parent (step.Update at update) state = related_at schema way table field parent at state >>= λ row. update_row schema way.other update row state
on_related schema way table field own parent (step.UpdateMany filter update) state = update_rows schema way.other update (passing schema way.other filter (related schema state.tables table field parent) state) state
on_related schema way table field own parent (step.Upsert at create update) state = update_or_make_row schema table way own create update (find_related schema way table field parent at state) state
on_related schema way table field own parent (step.Connect at) state = or_absent way.other (found schema way.other at state) >>= λ row. attach_row schema way own row state
on_related schema way table field own parent (step.ConnectOrCreate at create) state = attach_or_make_row schema table way own create (found schema way.other at state) state
on_related schema way table field own parent (step.Create create) state = make_row schema table way own create state
on_related schema way table field own parent (step.CreateMany creates) state = make_rows schema table way own creates state

-- ---- the order of steps

-- the kinds of steps in the order in which they run
abbrev pub kind_of : StepParts → ℕ
kind_of (step.Set uniques) = 0
kind_of (step.Disconnect at) = 1
kind_of (step.Delete at) = 2
kind_of (step.DeleteMany filter) = 3
kind_of (step.Update at update) = 4
kind_of (step.UpdateMany filter update) = 5
kind_of (step.Upsert at create update) = 6
kind_of (step.Connect at) = 7
kind_of (step.ConnectOrCreate at create) = 8
kind_of (step.Create create) = 9
kind_of (step.CreateMany creates) = 10

abbrev pub kinds : List ℕ
kinds = 0 ∷ 1 ∷ 2 ∷ 3 ∷ 4 ∷ 5 ∷ 6 ∷ 7 ∷ 8 ∷ 9 ∷ 10 ∷ []

-- a step begins where the own row is there
abbrev pub run_step : Schema → StepParts → Spot → Makes
run_step schema one (Holding table field number None) made = on_new schema number one made
run_step schema one (Holding table field number (Some own)) made = present schema table own made.state >>= λ row. on_held schema table field number row one made
run_step schema one (Reaching way table field own) made = present schema table own made.state >>= λ row. keeping made (on_related schema way table field own row one made.state)

abbrev pub step_step : Schema → StepParts → Run
step_step schema one = record { kind = kind_of one; gives = gives_reference one; run = run_step schema one }

abbrev pub nested_step : Nested-F Run Creates FieldRuns Updates → FieldRuns
nested_step nested = record { field = nested.field; steps = nested.steps }

abbrev pub chosen : Bool → Makes → Makes
chosen true run made = run made
chosen false run made = Ok made

abbrev pub run_kind : Spot → ℕ → List Run → Makes
run_kind side kind [] made = Ok made
run_kind side kind (one ∷ rest) made = chosen (one.kind == kind) (one.run side) made >>= run_kind side kind rest

-- kind by kind, and within a kind as they are listed
abbrev pub run_kinds : Spot → List ℕ → List Run → Makes
run_kinds side [] steps made = Ok made
run_kinds side (kind ∷ kinds) steps made = run_kind side kind steps made >>= run_kinds side kinds steps

abbrev pub run_field : Spot → ℕ → List FieldRuns → Makes
run_field side number [] made = Ok made
run_field side number (one ∷ rest) made = chosen (one.field == number) (run_kinds side kinds one.steps) made >>= run_field side number rest

-- the steps of the fields that hold references, in field order from this number on
abbrev pub run_holders : ℕ → Option ℕ → List FieldRuns → List Field → ℕ → Makes
run_holders table own nested [] number made = Ok made
run_holders table own nested (Scalar column ∷ fields) number made = run_holders table own nested fields (number + 1) made
run_holders table own nested (Holder relation ∷ fields) number made = run_field (Holding table number relation.0 own) number nested made >>= run_holders table own nested fields (number + 1)
run_holders table own nested (Target relation ∷ fields) number made = run_holders table own nested fields (number + 1) made
run_holders table own nested (SideA link ∷ fields) number made = run_holders table own nested fields (number + 1) made
run_holders table own nested (SideB link ∷ fields) number made = run_holders table own nested fields (number + 1) made

-- the steps of all other fields, in field order from this number on
abbrev pub run_others : Schema → ℕ → ℕ → List FieldRuns → List Field → ℕ → Makes
run_others schema table own nested [] number made = Ok made
run_others schema table own nested (Scalar column ∷ fields) number made = run_others schema table own nested fields (number + 1) made
run_others schema table own nested (Holder relation ∷ fields) number made = run_others schema table own nested fields (number + 1) made
run_others schema table own nested (Target relation ∷ fields) number made =
    run_field (Reaching (to_children schema relation.0) table number own) number nested made >>= run_others schema table own nested fields (number + 1)
run_others schema table own nested (SideA link ∷ fields) number made =
    run_field (Reaching (to_linked schema link.0 true) table number own) number nested made >>= run_others schema table own nested fields (number + 1)
run_others schema table own nested (SideB link ∷ fields) number made =
    run_field (Reaching (to_linked schema link.0 false) table number own) number nested made >>= run_others schema table own nested fields (number + 1)

abbrev pub fields_of : Schema → ℕ → List Field
fields_of schema table = map (λ field. field.1) (table_at schema table).fields

-- ---- a row with its steps

-- the values that refer to the attached rows, as these are now
abbrev pub references : Schema → List Attached → WriteState → Result (List (ℕ × Value)) Rule
references schema [] state = Ok []
references schema (one ∷ others) state = do
  parent ← present schema (parent_table schema one.relation) one.place state
  rest ← references schema others state
  Ok (zip (relation_at schema one.relation).child_columns (at_columns (relation_at schema one.relation).parent_columns parent) ++ rest)

abbrev pub row_of_values : List Value → Row
row_of_values values = record { values = values }

abbrev pub put_new : Schema → ℕ → Filled → WriteState → Result WriteState Rule
put_new schema table new state = put_of schema table (row_of_values new.values) state.tables >>= λ tables. Ok (record state { tables = tables; drawn = new.drawn })

-- A new row: first what it refers to, then the row itself, then the rows that refer to it and its links. It is
-- followed at the next place, and is there in the end.
abbrev pub create_step : Schema → Outside → Create-F Run Creates FieldRuns Updates → Creates
create_step schema outside create table given state = do
  let own = length state.followed
  made ← run_holders table None create.nested (fields_of schema table) 0 (made_of state [])
  taken ← references schema made.attached made.state
  new ← filled schema table (create.values ++ given ++ taken) outside made.state.drawn made.state.tables
  state ← put_new schema table new (unfollow own made.state)
  made ← run_others schema table own create.nested (fields_of schema table) 0 (made_of (follow schema table (row_of_values new.values) state) [])
  row ← present schema table own made.state
  Ok (unfollow (own + 1) made.state)

-- the columns that steps give, also where they attach no row
abbrev pub given_columns : Schema → ℕ → List FieldRuns → List ℕ
given_columns schema table nested = flat_map (λ one. columns_given schema table one.field (list_any (λ run. run.gives) one.steps)) nested

abbrev pub set_edit : (ℕ × Value) → (ℕ × Edit)
set_edit given = (given.0, edit.Set given.1)

-- The row at a place: first what it refers to, then its own edits, then the rows that refer to it and its links. A
-- reference that a step gives and no attached row sets keeps the value that it has after the steps.
abbrev pub update_step : Schema → Outside → Update-F Run Creates FieldRuns Updates → Updates
update_step schema outside update table own state = do
  let place = length state.followed
  made ← run_holders table (Some own) update.nested (fields_of schema table) 0 (made_of state [])
  row ← present schema table own made.state
  taken ← references schema made.attached made.state
  new ← edited schema table (update.edits ++ map set_edit taken) (given_columns schema table update.nested) outside row
  state ← change_of schema table (id_of (table_at schema table) row) new made.state
  made ← run_others schema table own update.nested (fields_of schema table) 0 (made_of (unfollow place state) [])
  row ← present schema table own made.state
  Ok (unfollow place made.state)

abbrev pub create_of : Schema → Outside → Create → Creates
create_of schema outside = fold-Create Run Creates FieldRuns Updates (step_step schema) (create_step schema outside) nested_step (update_step schema outside)

abbrev pub update_of : Schema → Outside → Update → Updates
update_of schema outside = fold-Update Run Creates FieldRuns Updates (step_step schema) (create_step schema outside) nested_step (update_step schema outside)

-- ---- a write by itself

-- the id of the row that was written, the tables, and the identifiers drawn
pub record Written : Type 0 where
  pub id : Values
  pub tables : Tables
  pub drawn : ℕ

abbrev pub written_id : ℕ → WriteState → Option Values → Result Written Rule
written_id table state None = Err (rule.Absent (table_id table))
written_id table state (Some id) = Ok (record { id = id; tables = state.tables; drawn = state.drawn })

abbrev pub first_id : List Followed → Option Values
first_id [] = None
first_id (one ∷ others) = one.id

abbrev pub written : ℕ → WriteState → Result Written Rule
written table state = written_id table state (first_id state.followed)

abbrev pub state_of : Tables → ℕ → WriteState
state_of tables drawn = record { tables = tables; followed = []; drawn = drawn }

-- a new row with its steps
abbrev pub write_new : Schema → Outside → ℕ → Create → ℕ → Tables → Result Written Rule
write_new schema outside table create drawn tables = create_of schema outside create table [] (state_of tables drawn) >>= written table

-- the row with this id, with its steps
abbrev pub write_old : Schema → Outside → ℕ → Values → Update → ℕ → Tables → Result Written Rule
write_old schema outside table id update drawn tables =
    update_of schema outside update table 0 (record { tables = tables; followed = record { table = table; id = Some id } ∷ []; drawn = drawn }) >>= written table
