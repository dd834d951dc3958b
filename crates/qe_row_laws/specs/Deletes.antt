-- What a delete takes away, that tables go on to fit, and why one is refused.
use Rattle.std.specs.Prelude.{◌≡◌, ◌<◌, ◌↔◌, ℕ, true, List, length, slice_get, Some, Ok, Err}
use Rattle.qe_text.specs.Lists.{In}
use Rattle.qe_base.specs.declared.value.Row.{Row}
use Rattle.qe_base.specs.declared.schema.Action.TheVariants.{Cascade, Restrict, SetNull}
use Rattle.qe_base.specs.declared.schema.Relation.{Relation}
use Rattle.qe_base.specs.declared.answer.Rule.{Rule}
use Rattle.qe_base.specs.declared.answer.Rule.TheVariants as rule
use Rattle.qe_base.specs.Schemas.{Schema}
use Rattle.qe_schema.specs.Fits.{FitsSchema}
use Rattle.qe_schema.specs.Tables.{Tables}
use Rattle.qe_writing.specs.WriteState.{WriteState}
use Rattle.qe_writing.specs.Doomed.{Place, place_of, refers, Doomed, AreDoomed, doomed_by}
use Rattle.qe_writing.specs.Delete.{relation_id, delete_of}

-- each of the rows is in its table, which the schema has
abbrev pub AreThere : Schema → Tables → List Place → Type 0
AreThere schema tables given = (place : Place) → In place given → (place.table < length schema.tables) × In place.row (tables.rows place.table)

-- the rows that are computed are the doomed ones
abbrev pub ComputesDoomed : Schema → Type 0
ComputesDoomed schema = (tables : Tables) (given : List Place) → AreThere schema tables given → AreDoomed schema tables given (doomed_by schema tables given)

-- the given rows are among these, and each child, by a relation whose deletes cascade, of one of them
pub record IsClosed (schema : Schema) (tables : Tables) (given among : List Place) : Type 0 where
  pub has_given : (place : Place) → In place given → In place among
  pub has_children : (relation : Relation) → In relation schema.relations → relation.on_delete ≡ Cascade → (child parent : Place) → In child.row (tables.rows child.table) → refers relation child parent ≡ true → In parent among → In child among

-- the rows that are computed are closed, and among any others that are
abbrev pub ComputesTheLeast : Schema → Type 0
ComputesTheLeast schema =
    (tables : Tables) (given : List Place) → AreThere schema tables given
    → IsClosed schema tables given (doomed_by schema tables given) × ((others : List Place) → IsClosed schema tables given others → (place : Place) → In place (doomed_by schema tables given) → In place others)

-- any two lists of the doomed rows have the same members
abbrev pub DoomedAreUnique : Schema → Type 0
DoomedAreUnique schema = (tables : Tables) (given one other : List Place) → AreDoomed schema tables given one → AreDoomed schema tables given other → (place : Place) → In place one ↔ In place other

-- tables that fit the schema fit it after a delete, too
abbrev pub DeletesFit : Schema → Type 0
DeletesFit schema = (given : List Place) (state after : WriteState) → FitsSchema schema state.tables → delete_of schema given state ≡ Ok after → FitsSchema schema after.tables

-- the child has a reference to a row of the relation's parent
abbrev pub FindsItsParent : Relation → Place → Tables → Type 0
FindsItsParent relation child tables = (row : Row) × In row (tables.rows relation.parent.0) × (refers relation child (place_of relation.parent.0 row) ≡ true)

-- After a delete each row finds a parent that it refers to and that was there before: no reference dangles
-- by the delete.
abbrev pub NoneDangles : Schema → Tables → Tables → Type 0
NoneDangles schema before after =
    (relation : Relation) → In relation schema.relations → (child : Place) → In child.row (after.rows child.table) → FindsItsParent relation child before → FindsItsParent relation child after

abbrev pub DeletesLeaveNoneDangling : Schema → Type 0
DeletesLeaveNoneDangling schema = (given : List Place) (state after : WriteState) → FitsSchema schema state.tables → AreThere schema state.tables given → delete_of schema given state ≡ Ok after → NoneDangles schema state.tables after.tables

-- a row that stays refers to a doomed one, by a relation that doesn't let it go
pub record HoldsBack (schema : Schema) (tables : Tables) (given : List Place) (relation : Relation) (child parent : Place) : Type 0 where
  pub restricts : relation.on_delete ≡ Restrict
  pub there : In child.row (tables.rows child.table)
  pub stays : Doomed schema tables given child → ⊥
  pub goes : Doomed schema tables given parent
  pub refers_to : refers relation child parent ≡ true

-- where a delete is accepted, no relation keeps a row
abbrev pub AcceptedKeepNone : Schema → Type 0
AcceptedKeepNone schema =
    (given : List Place) (state after : WriteState) → AreThere schema state.tables given → delete_of schema given state ≡ Ok after
    → (relation : Relation) → In relation schema.relations → (child parent : Place) → HoldsBack schema state.tables given relation child parent → ⊥

-- where a delete is refused, the relation that is named keeps a row
abbrev pub RefusedKeepOne : Schema → Type 0
RefusedKeepOne schema =
    (given : List Place) (state : WriteState) (broken : Rule) → AreThere schema state.tables given → delete_of schema given state ≡ Err broken
    → (number : ℕ) × (relation : Relation) × (child : Place) × (parent : Place) × (broken ≡ rule.Required (relation_id number)) × (slice_get schema.relations number ≡ Some relation) × HoldsBack schema state.tables given relation child parent

-- what a row that stays refers to, by a relation that doesn't become null, stays
abbrev pub ParentsStay : Schema → Type 0
ParentsStay schema =
    (given : List Place) (state after : WriteState) → AreThere schema state.tables given → delete_of schema given state ≡ Ok after
    → (relation : Relation) → In relation schema.relations → (relation.on_delete ≡ SetNull → ⊥) → (child parent : Place) → In child.row (state.tables.rows child.table) → refers relation child parent ≡ true
    → Doomed schema state.tables given parent → Doomed schema state.tables given child
