-- What a line asks for: its JSON value, and the operation that the value is a request of.
use Rattle.std.specs.Prelude.{ℕ, ℤ, List, [], ◌∷◌, Bool, false, ◌&&◌, ◌==◌, if◌then◌else◌, length, map, Option, Some, None, option_map, option_and_then, is_some, slice_get, codes, bytes_eq}
use Rattle.std.specs.List.{list_all, enumerate_from}
use Rattle.std.specs.Str.{is_utf8}
use Rattle.serde_json.specs.Data.{Data, object}
use Rattle.serde_json.specs.Events.{members_len}
use Rattle.serde_json.specs.Find.{get, get_member, as_str, as_number, as_i64}
use Rattle.serde_json.specs.Read.{read}
use Rattle.qe_base.specs.declared.value.Kind.{Kind}
use Rattle.qe_base.specs.declared.value.Kind.TheVariants as kind
use Rattle.qe_base.specs.declared.value.TableId.{TableId}
use Rattle.qe_base.specs.declared.value.Value.{Value}
use Rattle.qe_base.specs.declared.value.Value.TheVariants as value
use Rattle.qe_base.specs.declared.schema.Column.{Column}
use Rattle.qe_base.specs.declared.schema.Table.{Table}
use Rattle.qe_base.specs.Schemas.{Schema}
use Rattle.qe_base.specs.declared.query.Filter as filter
use Rattle.qe_base.specs.declared.query.Pick.{Pick, roll-Pick}
use Rattle.qe_base.specs.declared.write.Create.{roll-Create}
use Rattle.qe_base.specs.declared.write.Op.{Op}
use Rattle.qe_base.specs.declared.write.Op.TheVariants as op
use Rattle.qe_base.specs.Schemas.{table_named}
use Rattle.qe_scalars.specs.Numbers.{is_small}
use Rattle.qe_schema.specs.Tables.{table_at, id_columns}
use Rattle.qe_reading.specs.CarriedOut.{is_carried_out}

-- an object whose members have just these names
abbrev pub is_object_of : List (List ℕ) → Data → Bool
is_object_of names (object members) = (members_len members == length names) && list_all (λ name. is_some (get_member name members)) names
is_object_of names _ = false

-- the value of the only member, where it has this name
abbrev pub alone : List ℕ → Data → Option Data
alone name json = if is_object_of (name ∷ []) json then get name json else None

abbrev pub small_number : ℤ → Option Value
small_number number = if is_small number then Some (value.Int number) else None

-- the value of a kind that JSON stands for; of the other kinds none is taken yet
abbrev pub value_of : Kind → Data → Option Value
value_of kind.Text json = option_map value.Text (as_str json)
value_of kind.Bool json = None
value_of kind.Int json = option_and_then small_number (option_and_then as_i64 (as_number json))
value_of kind.Big json = None
value_of kind.Moment json = None
value_of kind.Blob json = None
value_of (kind.Member enum) json = None

-- all of them, where each is there
abbrev pub all_of : {A : Type 0} → List (Option A) → Option (List A)
all_of [] = Some []
all_of (one ∷ rest) = option_and_then (λ first. option_map (λ others. first ∷ others) (all_of rest)) one

abbrev pub given_in : Data → (ℕ × Column) → Option (ℕ × Value)
given_in json numbered = option_map (λ found. (numbered.0, found)) (option_and_then (value_of numbered.1.kind) (get numbered.1.name json))

-- a value for each column, by the columns' names, and nothing else
abbrev pub values_of : List Column → Data → Option (List (ℕ × Value))
values_of columns json = if is_object_of (map (λ column. column.name) columns) json then all_of (map (given_in json) (enumerate_from 0 columns)) else None

-- all columns
abbrev pub whole_pick : Table → Pick
whole_pick table = roll-Pick (record { columns = map (λ numbered. numbered.0) (enumerate_from 0 table.columns); counts = []; children = [] })

abbrev pub create_of : TableId → Table → Data → Option Op
create_of id table json = option_map (λ values. op.Create id (roll-Create (record { values = values; nested = [] })) (whole_pick table)) (values_of table.columns json)

-- the value of one column, by the column's name, and nothing else
abbrev pub value_at_column : Option Column → Data → Option Value
value_at_column None json = None
value_at_column (Some column) json = option_and_then (value_of column.kind) (alone column.name json)

-- the row whose id, which is one column, has a value
abbrev pub find_by : TableId → Table → List ℕ → Data → Option Op
find_by id table [] json = None
find_by id table (number ∷ []) json =
    option_map (λ found. op.FindUnique id (record { key = 0; values = record { values = found ∷ [] }; extra = filter.All [] }) false (whole_pick table)) (value_at_column (slice_get table.columns number) json)
find_by id table (number ∷ other ∷ others) json = None

abbrev pub find_of : TableId → Table → Data → Option Op
find_of id table json = find_by id table (id_columns table) json

-- the operation of an action on a table, by its arguments
abbrev pub op_by : TableId → Table → List ℕ → Data → Option Op
op_by id table action arguments =
    if bytes_eq action (codes "create") then option_and_then (create_of id table) (alone (codes "data") arguments)
    else (if bytes_eq action (codes "findUnique") then option_and_then (find_of id table) (alone (codes "where") arguments) else None)

-- the operation, where it is carried out so far
abbrev pub if_carried_out : Schema → Op → Option Op
if_carried_out schema found = if is_carried_out schema found then Some found else None

-- the operation of an action on a table of the schema that is carried out, by its arguments
abbrev pub op_of : Schema → TableId → List ℕ → Data → Option Op
op_of schema id action arguments = option_and_then (if_carried_out schema) (op_by id (table_at schema id.0) action arguments)

abbrev pub text_at : List ℕ → Data → Option (List ℕ)
text_at name json = option_and_then as_str (get name json)

-- the operation that a value is a request of, which is carried out so far
abbrev pub request_of : Schema → Data → Option Op
request_of schema json =
    if is_object_of (codes "action" ∷ codes "modelName" ∷ codes "query" ∷ []) json
    then option_and_then (λ name. option_and_then (λ id. option_and_then (λ action. option_and_then (op_of schema id action) (option_and_then (alone (codes "arguments")) (get (codes "query") json)))
    (text_at (codes "action") json)) (table_named name schema.tables)) (text_at (codes "modelName") json)
    else None

-- what a line asks for
pub data Asked : Type 0 where
  not_json : Asked
  unbuilt : Asked
  asks : Op → Asked

abbrev pub asked_by : Option Op → Asked
asked_by None = unbuilt
asked_by (Some op) = asks op

abbrev pub asked_in : Schema → Option Data → Asked
asked_in schema None = not_json
asked_in schema (Some json) = asked_by (request_of schema json)

-- A text that isn't UTF-8 has no JSON value.
abbrev pub json_of : List ℕ → Option Data
json_of text = if is_utf8 text then read text else None

abbrev pub asked_of : Schema → List ℕ → Asked
asked_of schema text = asked_in schema (json_of text)
