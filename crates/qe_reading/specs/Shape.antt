-- What an answer shows of a row.
use Rattle.std.specs.Prelude.{ℕ, List, [], ◌∷◌, ◌++◌, Bool, true, false, not, map, length, codes, slice_get, Option, Some, None, Result, Ok, Err}
use Rattle.qe_base.specs.declared.value.Row.{Row}
use Rattle.qe_base.specs.declared.schema.Column.{Column}
use Rattle.qe_base.specs.declared.schema.Field.{Field}
use Rattle.qe_base.specs.declared.schema.Field.TheVariants.{Scalar, Holder, Target, SideA, SideB}
use Rattle.qe_base.specs.declared.schema.Table.{Table}
use Rattle.qe_base.specs.declared.query.Pick.{Pick}
use Rattle.qe_base.specs.declared.query.Child.{Child}
use Rattle.qe_base.specs.declared.query.Child.TheOpen.{Child-F, Pick-F}
use Rattle.qe_base.specs.declared.query.Child.TheFolds.{fold-Pick, fold-Child}
use Rattle.qe_base.specs.declared.answer.Answer.{Answer}
use Rattle.qe_base.specs.declared.answer.Answer as answer
use Rattle.qe_base.specs.declared.answer.Rule.{Rule}
use Rattle.qe_base.specs.declared.answer.Rule.TheVariants as rule
use Rattle.qe_base.specs.Schemas.{Schema}
use Rattle.qe_schema.specs.Columns.{value_at}
use Rattle.qe_schema.specs.Tables.{Tables, table_at, field_at}
use Rattle.qe_reading.specs.Related.{relation_at, other_table, related, one_related, is_to_many, is_some_such}
use Rattle.qe_reading.specs.Look.{looked_up}

-- ---- results

abbrev pub then_ok : {A B : Type 0} → (A → B) → Result A Rule → Result B Rule
then_ok change (Ok found) = Ok (change found)
then_ok change (Err broken) = Err broken

abbrev pub with_front : {A : Type 0} → Result A Rule → Result (List A) Rule → Result (List A) Rule
with_front (Ok found) more = then_ok (λ rest. found ∷ rest) more
with_front (Err broken) more = Err broken

-- all that was found, or the first refusal
abbrev pub gathered : {A : Type 0} → List (Result A Rule) → Result (List A) Rule
gathered [] = Ok []
gathered (one ∷ more) = with_front one (gathered more)

-- ---- columns and counts

-- a part of an answer, by its name
abbrev pub NamedAnswer : Type 0
NamedAnswer = List ℕ × Answer

-- the value in a column, by the column's name
abbrev pub scalar_of : Option Column → ℕ → Row → NamedAnswer
scalar_of None number row = ([], answer.Null)
scalar_of (Some column) number row = (column.name, answer.Scalar column.kind (value_at row number))

abbrev pub columns_shown : Table → List ℕ → Row → List NamedAnswer
columns_shown table columns row = map (λ number. scalar_of (slice_get table.columns number) number row) columns

abbrev pub name_of : Option (List ℕ × Field) → List ℕ
name_of None = []
name_of (Some field) = field.0

-- the name of a table's field of a number
abbrev pub field_name : Schema → ℕ → ℕ → List ℕ
field_name schema table number = name_of (slice_get (table_at schema table).fields number)

-- how many rows are related through a field, by the field's name
abbrev pub count_of : Schema → Tables → ℕ → Row → ℕ → NamedAnswer
count_of schema tables table row field = (field_name schema table field, answer.Number (length (related schema tables table field row)))

-- the counts under one name, and nothing where none are picked
abbrev pub counts_shown : Schema → Tables → ℕ → List ℕ → Row → List NamedAnswer
counts_shown schema tables table [] row = []
counts_shown schema tables table (field ∷ fields) row = (codes "_count", answer.Object (map (count_of schema tables table row) (field ∷ fields))) ∷ []

-- ---- children

-- what is shown of a row of the table of a number
abbrev pub Shows : Type 0
Shows = ℕ → Row → Result Answer Rule

-- the same of a child, by the name of its field
abbrev pub ShowsChild : Type 0
ShowsChild = ℕ → Row → Result NamedAnswer Rule

-- a field whose row has to be there
abbrev pub is_required : Schema → Field → Bool
is_required schema (Scalar column) = false
is_required schema (Holder number) = is_some_such (λ relation. not relation.optional) (relation_at schema number.0)
is_required schema (Target number) = false
is_required schema (SideA table) = false
is_required schema (SideB table) = false

-- what is answered where no row is related: null, or a refusal
abbrev pub missing_at : ℕ → ℕ → Bool → Result Answer Rule
missing_at table field false = Ok answer.Null
missing_at table field true = Err (rule.Dangling (record { 0 = table }) field)

-- the related row, if it is there
abbrev pub one_shown : Schema → ℕ → ℕ → (Row → Result Answer Rule) → Option Row → Result Answer Rule
one_shown schema table field shows None = missing_at table field (is_some_such (is_required schema) (field_at schema table field))
one_shown schema table field shows (Some row) = shows row

-- all of these rows
abbrev pub all_shown : (Row → Result Answer Rule) → List Row → Result Answer Rule
all_shown shows rows = then_ok answer.List (gathered (map shows rows))

-- a list, or one row at most
abbrev pub child_shown : Schema → Tables → ℕ → Child-F ShowsChild Shows → Row → Bool → Result Answer Rule
child_shown schema tables table child row true =
    let other = other_table schema table child.field in
    all_shown (child.pick other) (looked_up schema tables other child.look (related schema tables table child.field row))
child_shown schema tables table child row false = one_shown schema table child.field (child.pick (other_table schema table child.field)) (one_related schema tables table child.field row)

abbrev pub child_step : Schema → Tables → Child-F ShowsChild Shows → ShowsChild
child_step schema tables child table row = then_ok (λ shown. (field_name schema table child.field, shown)) (child_shown schema tables table child row (is_to_many schema table child.field))

-- ---- rows

abbrev pub pick_step : Schema → Tables → Pick-F ShowsChild Shows → Shows
pick_step schema tables pick table row =
    then_ok (λ children. answer.Object (columns_shown (table_at schema table) pick.columns row ++ counts_shown schema tables table pick.counts row ++ children)) (gathered (map (λ child. child table row) pick.children))

-- the row as an answer, or the first refusal, depth first
abbrev pub shape_of : Schema → Tables → Pick → Shows
shape_of schema tables = fold-Pick ShowsChild Shows (child_step schema tables) (pick_step schema tables)

-- the same of a child
abbrev pub child_of : Schema → Tables → Child → ShowsChild
child_of schema tables = fold-Child ShowsChild Shows (child_step schema tables) (pick_step schema tables)
