-- Small schemas and tables for worked examples.
use Rattle.std.specs.Prelude as Prelude
use Rattle.std.specs.Prelude.{ℕ, ℤ, pos, negsuc, List, [], ◌∷◌, true, false, codes, Option, Some, Result, Ok}
use Rattle.qe_base.specs.declared.value.Kind.{Kind}
use Rattle.qe_base.specs.declared.value.Kind.TheVariants as kind
use Rattle.qe_base.specs.declared.value.Row.{Row}
use Rattle.qe_base.specs.declared.value.Value.{Value}
use Rattle.qe_base.specs.declared.value.Value.TheVariants.{Null, Text, Int, Moment}
use Rattle.qe_base.specs.declared.schema.Action.{Action}
use Rattle.qe_base.specs.declared.schema.Action.TheVariants.{Cascade, Restrict}
use Rattle.qe_base.specs.declared.schema.Column.{Column}
use Rattle.qe_base.specs.declared.schema.Field.{Field}
use Rattle.qe_base.specs.declared.schema.Field.TheVariants.{Scalar, Holder, Target, SideA, SideB}
use Rattle.qe_base.specs.declared.schema.Fill.{Fill}
use Rattle.qe_base.specs.declared.schema.Fill.TheVariants.{Absent, Counter, Uuid}
use Rattle.qe_base.specs.declared.schema.Key.{Key}
use Rattle.qe_base.specs.declared.schema.Relation.{Relation}
use Rattle.qe_base.specs.declared.schema.Table.{Table}
use Rattle.qe_base.specs.declared.query.Filter as filter
use Rattle.qe_base.specs.declared.query.Unique.{Unique}
use Rattle.qe_base.specs.declared.answer.Outside.{Outside}
use Rattle.qe_base.specs.Schemas.{Schema}
use Rattle.qe_base.specs.declared.answer.Rule.{Rule}
use Rattle.qe_base.specs.declared.write.Edit.TheVariants.{Set}
use Rattle.qe_schema.specs.Tables.{Tables, no_rows, with_rows}
use Rattle.qe_writing.specs.WriteState.{WriteState, ◌>>=◌}
use Rattle.qe_writing.specs.Fill.{Filled}
use Rattle.qe_writing.specs.Write.{Creates, Updates, StepParts, FieldRuns, create_step, update_step, step_step}

abbrev pub column : List ℕ → Kind → Prelude.Bool → Fill → Column
column name kind optional fill = record { name = name; stored = name; kind = kind; optional = optional; fill = fill; updated = false }

abbrev pub key : List ℕ → List ℕ → Key
key name columns = record { name = name; columns = columns }

abbrev pub model : List ℕ → List Column → List Key → List (List ℕ × Field) → Table
model name columns keys fields = record { name = name; stored = name; link = false; columns = columns; keys = keys; fields = fields; indexes = [] }

abbrev pub relation : ℕ → List ℕ → List ℕ → ℕ → List ℕ → List ℕ → Prelude.Bool → Prelude.Bool → Action → Relation
relation child child_field child_columns parent parent_field parent_columns many optional on_delete = record {
  child = record { 0 = child };
  child_field = child_field;
  child_columns = child_columns;
  parent = record { 0 = parent };
  parent_field = parent_field;
  parent_columns = parent_columns;
  many = many;
  optional = optional;
  on_delete = on_delete;
  on_update = Cascade;
}

abbrev pub number : ℕ → Value
number n = Int (pos n)

abbrev pub row : List Value → Row
row values = record { values = values }

abbrev pub nowhere : Outside
nowhere = record { moment = pos 0; seed = 0 }

-- ---- Node: id, parentId (deletes cascade), watchId (deletes are restricted)

abbrev pub tree : Schema
tree = record {
  tables = model (codes "Node") (column (codes "id") kind.Int false Absent ∷ column (codes "parentId") kind.Int true Absent ∷ column (codes "watchId") kind.Int true Absent ∷ []) (key (codes "id") (0 ∷ []) ∷ [])
      ((codes "id", Scalar 0) ∷ (codes "parent", Holder (record { 0 = 0 })) ∷ (codes "parentId", Scalar 1) ∷ (codes "kids", Target (record { 0 = 0 })) ∷ (codes "watch", Holder (record { 0 = 1 })) ∷ (codes "watchId", Scalar 2)
      ∷ (codes "watchers", Target (record { 0 = 1 })) ∷ []) ∷ [];
  relations = relation 0 (codes "parent") (1 ∷ []) 0 (codes "kids") (0 ∷ []) true true Cascade ∷ relation 0 (codes "watch") (2 ∷ []) 0 (codes "watchers") (0 ∷ []) true true Restrict ∷ [];
  links = [];
  choices = [];
}

abbrev pub node : ℕ → Value → Value → Row
node id parent watch = row (number id ∷ parent ∷ watch ∷ [])

-- 1 and 2 are each other's parents, and 3, a kid of 2, watches 1
abbrev pub ring : Tables
ring = with_rows 0 (node 1 (number 2) Null ∷ node 2 (number 1) Null ∷ node 3 (number 2) (number 1) ∷ []) no_rows

-- 5 watches 4
abbrev pub watched : Tables
watched = with_rows 0 (node 4 Null Null ∷ node 5 Null (number 4) ∷ []) no_rows

-- ---- A: id; B: (aId, n); C: id, aId, n, k, with a reference (aId, n) to B and (aId, k) unique

abbrev pub chain : Schema
chain = record {
  tables = model (codes "A") (column (codes "id") kind.Int false Absent ∷ []) (key (codes "id") (0 ∷ []) ∷ []) ((codes "id", Scalar 0) ∷ (codes "bs", Target (record { 0 = 0 })) ∷ [])
      ∷ model (codes "B") (column (codes "aId") kind.Int false Absent ∷ column (codes "n") kind.Int false Absent ∷ []) (key (codes "aId_n") (0 ∷ 1 ∷ []) ∷ [])
      ((codes "aId", Scalar 0) ∷ (codes "n", Scalar 1) ∷ (codes "a", Holder (record { 0 = 0 })) ∷ (codes "cs", Target (record { 0 = 1 })) ∷ [])
      ∷ model (codes "C") (column (codes "id") kind.Int false Absent ∷ column (codes "aId") kind.Int false Absent ∷ column (codes "n") kind.Int false Absent ∷ column (codes "k") kind.Int false Absent ∷ [])
      (key (codes "id") (0 ∷ []) ∷ key (codes "aId_k") (1 ∷ 3 ∷ []) ∷ []) ((codes "id", Scalar 0) ∷ (codes "aId", Scalar 1) ∷ (codes "n", Scalar 2) ∷ (codes "k", Scalar 3) ∷ (codes "b", Holder (record { 0 = 1 })) ∷ []) ∷ [];
  relations = relation 1 (codes "a") (0 ∷ []) 0 (codes "bs") (0 ∷ []) true false Restrict ∷ relation 2 (codes "b") (1 ∷ 2 ∷ []) 1 (codes "cs") (0 ∷ 1 ∷ []) true false Restrict ∷ [];
  links = [];
  choices = [];
}

abbrev pub numbers : List ℕ → Row
numbers values = row (Prelude.map number values)

-- C 11 holds (2, 5) already, which C 10 would get
abbrev pub taken : Tables
taken = with_rows 2 (numbers (10 ∷ 1 ∷ 1 ∷ 5 ∷ []) ∷ numbers (11 ∷ 2 ∷ 9 ∷ 5 ∷ []) ∷ []) (with_rows 1 (numbers (1 ∷ 1 ∷ []) ∷ []) (with_rows 0 (numbers (1 ∷ []) ∷ []) no_rows))

abbrev pub free : Tables
free = with_rows 2 (numbers (10 ∷ 1 ∷ 1 ∷ 5 ∷ []) ∷ []) (with_rows 1 (numbers (1 ∷ 1 ∷ []) ∷ []) (with_rows 0 (numbers (1 ∷ []) ∷ []) no_rows))

-- ---- X: id, counted, and v

abbrev pub tally : Schema
tally = record {
  tables = model (codes "X") (column (codes "id") kind.Int false Counter ∷ column (codes "v") kind.Int false Absent ∷ []) (key (codes "id") (0 ∷ []) ∷ []) ((codes "id", Scalar 0) ∷ (codes "v", Scalar 1) ∷ []) ∷ [];
  relations = [];
  links = [];
  choices = [];
}

-- ---- U: an identifier

abbrev pub kinds : Schema
kinds = record { tables = model (codes "U") (column (codes "id") kind.Text false Uuid ∷ []) (key (codes "id") (0 ∷ []) ∷ []) ((codes "id", Scalar 0) ∷ []) ∷ []; relations = []; links = []; choices = [] }

-- ---- Team: id, name; Member: id, teamId, with a required reference to Team

abbrev pub team : Schema
team = record {
  tables = model (codes "Team") (column (codes "id") kind.Int false Absent ∷ column (codes "name") kind.Text false Absent ∷ []) (key (codes "id") (0 ∷ []) ∷ []) ((codes "id", Scalar 0) ∷ (codes "name", Scalar 1) ∷ (codes "members", Target (record { 0 = 0 })) ∷ [])
      ∷ model (codes "Member") (column (codes "id") kind.Int false Absent ∷ column (codes "teamId") kind.Int false Absent ∷ []) (key (codes "id") (0 ∷ []) ∷ [])
      ((codes "id", Scalar 0) ∷ (codes "team", Holder (record { 0 = 0 })) ∷ (codes "teamId", Scalar 1) ∷ []) ∷ [];
  relations = relation 1 (codes "team") (1 ∷ []) 0 (codes "members") (0 ∷ []) true false Restrict ∷ [];
  links = [];
  choices = [];
}

abbrev pub named : ℕ → List ℕ → Row
named n name = row (number n ∷ Text name ∷ [])

-- team 1, and member 7 of it
abbrev pub one_team : Tables
one_team = with_rows 1 (numbers (7 ∷ 1 ∷ []) ∷ []) (with_rows 0 (named 1 (codes "t") ∷ []) no_rows)

-- ---- Day: at, a moment; Entry: id, at, which each update sets, with an optional reference to Day

abbrev pub diary : Schema
diary = record {
  tables = model (codes "Day") (column (codes "at") kind.Moment false Absent ∷ []) (key (codes "at") (0 ∷ []) ∷ []) ((codes "at", Scalar 0) ∷ (codes "entries", Target (record { 0 = 0 })) ∷ [])
      ∷ model (codes "Entry") (column (codes "id") kind.Int false Absent ∷ record (column (codes "at") kind.Moment true Absent) { updated = true } ∷ []) (key (codes "id") (0 ∷ []) ∷ [])
      ((codes "id", Scalar 0) ∷ (codes "day", Holder (record { 0 = 0 })) ∷ (codes "at", Scalar 1) ∷ []) ∷ [];
  relations = relation 1 (codes "day") (1 ∷ []) 0 (codes "entries") (0 ∷ []) true true Restrict ∷ [];
  links = [];
  choices = [];
}

abbrev pub day : ℕ → Row
day at = row (Moment (pos at) ∷ [])

abbrev pub entry : ℕ → Value → Row
entry n at = row (number n ∷ at ∷ [])

-- day 3, and entry 7 of it
abbrev pub one_day : Tables
one_day = with_rows 1 (entry 7 (Moment (pos 3)) ∷ []) (with_rows 0 (day 3 ∷ []) no_rows)

abbrev pub at_five : Outside
at_five = record { moment = pos 5; seed = 0 }

-- ---- Post: id, counted; Category: id, counted, and a unique name; linked

abbrev pub blog : Schema
blog = record {
  tables = model (codes "Post") (column (codes "id") kind.Int false Counter ∷ []) (key (codes "id") (0 ∷ []) ∷ []) ((codes "id", Scalar 0) ∷ (codes "categories", SideB (record { 0 = 2 })) ∷ [])
      ∷ model (codes "Category") (column (codes "id") kind.Int false Counter ∷ column (codes "name") kind.Text false Absent ∷ []) (key (codes "id") (0 ∷ []) ∷ key (codes "name") (1 ∷ []) ∷ [])
      ((codes "id", Scalar 0) ∷ (codes "name", Scalar 1) ∷ (codes "posts", SideA (record { 0 = 2 })) ∷ [])
      ∷ record {
        name = codes "_CategoryToPost";
        stored = codes "_CategoryToPost";
        link = true;
        columns = column (codes "A") kind.Int false Absent ∷ column (codes "B") kind.Int false Absent ∷ [];
        keys = key (codes "A_B") (0 ∷ 1 ∷ []) ∷ [];
        fields = (codes "A", Scalar 0) ∷ (codes "B", Scalar 1) ∷ [];
        indexes = [];
      } ∷ [];
  relations = [];
  links = record { table = record { 0 = 2 }; a = record { 0 = 1 }; a_field = codes "posts"; b = record { 0 = 0 }; b_field = codes "categories" } ∷ [];
  choices = [];
}

-- ---- what an example looks at

abbrev pub rows_after : ℕ → Result WriteState Rule → Result (List Row) Rule
rows_after table result = result >>= λ state. Ok (state.tables.rows table)

abbrev pub values_in : Result Filled Rule → Result (List Value) Rule
values_in result = result >>= λ new. Ok new.values

abbrev pub pairs_after : ℕ → Result WriteState Rule → Result (List (Value × Value)) Rule
pairs_after table result = result >>= λ state. Ok (state.tables.pairs table)

-- a category by its name
abbrev pub by_name : List ℕ → Unique
by_name name = record { key = 1; values = row (Text name ∷ []); extra = filter.All [] }

abbrev pub by_id : ℕ → Unique
by_id n = record { key = 0; values = row (number n ∷ []); extra = filter.All [] }

-- the row of this id is being updated
abbrev pub updating : ℕ → ℕ → Tables → WriteState
updating table n tables = record { tables = tables; followed = record { table = table; id = Some (number n ∷ []) } ∷ []; drawn = 0 }

-- steps on one field
abbrev pub steps_on : Schema → ℕ → List StepParts → List FieldRuns
steps_on schema field steps = record { field = field; steps = Prelude.map (step_step schema) steps } ∷ []

-- a category of this name is made
abbrev pub category : List ℕ → Creates
category name = create_step blog nowhere (record { values = (1, Text name) ∷ []; nested = [] })

-- a day is made
abbrev pub new_day : ℕ → Creates
new_day at = create_step diary at_five (record { values = (0, Moment (pos at)) ∷ []; nested = [] })

-- the day is moved
abbrev pub moved_day : ℕ → Updates
moved_day at = update_step diary at_five (record { edits = (0, Set (Moment (pos at))) ∷ []; nested = [] })

-- entry 7 of day 3 is updated by a step on its day
abbrev pub entries_by : StepParts → Result (List Row) Rule
entries_by step = rows_after 1 (update_step diary at_five (record { edits = []; nested = steps_on diary 1 (step ∷ []) }) 1 0 (updating 1 7 one_day))
