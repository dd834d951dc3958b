-- The rows that are related to a row through a field.
use Rattle.std.specs.Prelude.{ℕ, List, [], ◌∷◌, Bool, true, false, ◌&&◌, not, filter, slice_get, Option, Some, None, option_map, unwrap_or}
use Rattle.std.specs.List.{list_any}
use Rattle.qe_base.specs.Values.{value_eq}
use Rattle.qe_base.specs.declared.value.Row.{Row}
use Rattle.qe_base.specs.declared.value.Value.{Value}
use Rattle.qe_base.specs.declared.value.Value.TheVariants.{Null}
use Rattle.qe_base.specs.declared.schema.Field.{Field}
use Rattle.qe_base.specs.declared.schema.Field.TheVariants.{Scalar, Holder, Target, SideA, SideB}
use Rattle.qe_base.specs.declared.schema.Link.{Link}
use Rattle.qe_base.specs.declared.schema.Relation.{Relation}
use Rattle.qe_base.specs.Schemas.{Schema, link_of}
use Rattle.qe_schema.specs.Columns.{Values, at_columns, holds}
use Rattle.qe_schema.specs.Tables.{Tables, table_at, field_at, id_of}

-- the relation of a number
abbrev pub relation_at : Schema → ℕ → Option Relation
relation_at schema number = slice_get schema.relations number

-- the table that a field leads to, if it is one of a relation
abbrev pub led_to : Schema → Field → Option ℕ
led_to schema (Scalar column) = None
led_to schema (Holder number) = option_map (λ relation. relation.parent.0) (relation_at schema number.0)
led_to schema (Target number) = option_map (λ relation. relation.child.0) (relation_at schema number.0)
led_to schema (SideA table) = option_map (λ link. link.b.0) (link_of table.0 schema.links)
led_to schema (SideB table) = option_map (λ link. link.a.0) (link_of table.0 schema.links)

abbrev pub led_to_by : Schema → Option Field → Option ℕ
led_to_by schema None = None
led_to_by schema (Some field) = led_to schema field

-- the same by the numbers of a table and of its field; 0, with no related rows, where it leads nowhere
abbrev pub other_table : Schema → ℕ → ℕ → ℕ
other_table schema table number = unwrap_or (led_to_by schema (field_at schema table number)) 0

-- the parent's row has the values of the child's foreign key
abbrev pub refers : Relation → Row → Row → Bool
refers relation child parent = holds relation.parent_columns (at_columns relation.child_columns child) parent

-- the child's foreign key has the parent's values
abbrev pub is_referred : Relation → Row → Row → Bool
is_referred relation parent child = holds relation.child_columns (at_columns relation.parent_columns parent) child

abbrev pub first_value : Values → Value
first_value [] = Null
first_value (value ∷ values) = value

-- the value of an id of one column, as all models have that are linked
abbrev pub id_value : Schema → ℕ → Row → Value
id_value schema table row = first_value (id_of (table_at schema table) row)

-- the two ids are paired in the link table
abbrev pub are_paired : Schema → Tables → Link → Row → Row → Bool
are_paired schema tables link a b = list_any (λ pair. value_eq pair.0 (id_value schema link.a.0 a) && value_eq pair.1 (id_value schema link.b.0 b)) (tables.pairs link.table.0)

abbrev pub is_some_such : {A : Type 0} → (A → Bool) → Option A → Bool
is_some_such test None = false
is_some_such test (Some found) = test found

-- the second row is related to the first one through the field
abbrev pub is_related : Schema → Tables → Field → Row → Row → Bool
is_related schema tables (Scalar column) row other = false
is_related schema tables (Holder number) row other = is_some_such (λ relation. refers relation row other) (relation_at schema number.0)
is_related schema tables (Target number) row other = is_some_such (λ relation. is_referred relation row other) (relation_at schema number.0)
is_related schema tables (SideA table) row other = is_some_such (λ link. are_paired schema tables link row other) (link_of table.0 schema.links)
is_related schema tables (SideB table) row other = is_some_such (λ link. are_paired schema tables link other row) (link_of table.0 schema.links)

abbrev pub is_related_by : Schema → Tables → Option Field → Row → Row → Bool
is_related_by schema tables None row other = false
is_related_by schema tables (Some field) row other = is_related schema tables field row other

-- the rows that are related to a row of a table through its field of a number, in the order of their ids
abbrev pub related : Schema → Tables → ℕ → ℕ → Row → List Row
related schema tables table number row = filter (is_related_by schema tables (field_at schema table number) row) (tables.rows (other_table schema table number))

abbrev pub first_row : List Row → Option Row
first_row [] = None
first_row (row ∷ rows) = Some row

-- the one related row of a field that leads to one at most
abbrev pub one_related : Schema → Tables → ℕ → ℕ → Row → Option Row
one_related schema tables table number row = first_row (related schema tables table number row)

-- a field that leads to any number of rows
abbrev pub is_many : Schema → Field → Bool
is_many schema (Scalar column) = false
is_many schema (Holder number) = false
is_many schema (Target number) = is_some_such (λ relation. relation.many) (relation_at schema number.0)
is_many schema (SideA table) = true
is_many schema (SideB table) = true

-- a field that leads to one row at most
abbrev pub is_one : Schema → Field → Bool
is_one schema (Scalar column) = false
is_one schema (Holder number) = true
is_one schema (Target number) = is_some_such (λ relation. not relation.many) (relation_at schema number.0)
is_one schema (SideA table) = false
is_one schema (SideB table) = false

abbrev pub is_to_many : Schema → ℕ → ℕ → Bool
is_to_many schema table number = is_some_such (is_many schema) (field_at schema table number)

abbrev pub is_to_one : Schema → ℕ → ℕ → Bool
is_to_one schema table number = is_some_such (is_one schema) (field_at schema table number)
