-- What a delete leaves.
use Rattle.std.specs.Prelude.{◌≡◌, ◌⊎◌, ◌↔◌, ℕ, true, List, [], ◌∷◌, length, Some, Ok}
use Rattle.qe_text.specs.Lists.{In}
use Rattle.qe_base.specs.declared.value.Row.{Row}
use Rattle.qe_base.specs.declared.value.Value.{Value}
use Rattle.qe_base.specs.declared.value.Value.TheVariants.{Null}
use Rattle.qe_base.specs.declared.schema.Action.TheVariants.{SetNull}
use Rattle.qe_base.specs.declared.schema.Link.{Link}
use Rattle.qe_base.specs.declared.schema.Relation.{Relation}
use Rattle.qe_base.specs.Schemas.{Schema, link_of}
use Rattle.qe_schema.specs.Columns.{value_at}
use Rattle.qe_schema.specs.Tables.{Tables, table_at, id_of}
use Rattle.qe_writing.specs.WriteState.{WriteState}
use Rattle.qe_writing.specs.Doomed.{Place, place_of, refers, Doomed}
use Rattle.qe_writing.specs.Delete.{delete_of}
use Rattle.qe_row_laws.specs.Deletes.{AreThere}

-- the column refers, by a relation that sets nulls, to a row that goes
pub record BecomesNull (schema : Schema) (tables : Tables) (given : List Place) (place : Place) (column : ℕ) : Type 0 where
  pub relation : Relation
  pub is_one : In relation schema.relations
  pub sets_null : relation.on_delete ≡ SetNull
  pub among : In column relation.child_columns
  pub parent : Place
  pub refers_to : refers relation place parent ≡ true
  pub goes : Doomed schema tables given parent

-- the row as the delete leaves it: null in such columns, and as it was in all others
pub record IsLeft (schema : Schema) (tables : Tables) (given : List Place) (place : Place) (row : Row) : Type 0 where
  pub width : length row.values ≡ length place.row.values
  pub nulls : (column : ℕ) → BecomesNull schema tables given place column → value_at row column ≡ Null
  pub others : (column : ℕ) → (BecomesNull schema tables given place column → ⊥) → value_at row column ≡ value_at place.row column

-- this is the row of a table with an id of one value
abbrev pub HasId : Schema → Place → ℕ → Value → Type 0
HasId schema place table id = (place.table ≡ table) × (id_of (table_at schema table) place.row ≡ id ∷ [])

-- one of the two rows that the pair links goes
abbrev pub LinksOneThatGoes : Schema → Tables → List Place → Link → Value × Value → Type 0
LinksOneThatGoes schema tables given link pair = (place : Place) × Doomed schema tables given place × (HasId schema place link.a.0 pair.0 ⊎ HasId schema place link.b.0 pair.1)

-- The rows that stay are left, and no others; counters are as before; and of the pairs those are left of which
-- both rows stay.
pub record IsTheRest (schema : Schema) (given : List Place) (before after : Tables) : Type 0 where
  pub stay : (place : Place) → In place.row (before.rows place.table) → (Doomed schema before given place → ⊥) → (row : Row) × In row (after.rows place.table) × IsLeft schema before given place row
  pub only : (table : ℕ) (row : Row) → In row (after.rows table) → (old : Row) × In old (before.rows table) × (Doomed schema before given (place_of table old) → ⊥) × IsLeft schema before given (place_of table old) row
  pub counters : (table : ℕ) → after.last table ≡ before.last table
  pub pairs : (table : ℕ) (pair : Value × Value) → In pair (after.pairs table) ↔ (In pair (before.pairs table) × ((link : Link) → link_of table schema.links ≡ Some link → LinksOneThatGoes schema before given link pair → ⊥))

abbrev pub LeavesTheRest : Schema → Type 0
LeavesTheRest schema = (given : List Place) (state after : WriteState) → AreThere schema state.tables given → delete_of schema given state ≡ Ok after → IsTheRest schema given state.tables after.tables
