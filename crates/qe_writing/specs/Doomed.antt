-- The rows that a delete takes away: the given ones, and those that a cascade leads to.
use Rattle.std.specs.Prelude.{◌≡◌, ◌<◌, ℕ, zero, suc, Bool, true, ◌&&◌, ◌||◌, List, [], map, filter, length, ◌==◌}
use Rattle.std.specs.List.{list_any, flat_map, range_with_len}
use Rattle.qe_text.specs.Lists.{In}
use Rattle.qe_base.specs.declared.value.Row.{Row}
use Rattle.qe_base.specs.declared.schema.Action.TheVariants.{Cascade}
use Rattle.qe_base.specs.declared.schema.Relation.{Relation}
use Rattle.qe_base.specs.Schemas.{Schema}
use Rattle.qe_schema.specs.Cycles.{is_cascade}
use Rattle.qe_schema.specs.Columns.{at_columns, are_same, holds}
use Rattle.qe_schema.specs.Tables.{Tables}

-- a row of a table
pub record Place : Type 0 where
  pub table : ℕ
  pub row : Row

abbrev pub place_of : ℕ → Row → Place
place_of table row = record { table = table; row = row }

-- the child has a reference to the parent
abbrev pub refers : Relation → Place → Place → Bool
refers relation child parent =
    child.table == relation.child.0 && parent.table == relation.parent.0 && holds relation.child_columns (at_columns relation.parent_columns parent.row) child.row

-- The least set of rows that has the given ones and each child, by a relation whose deletes cascade, of a
-- member.
pub data Doomed (schema : Schema) (tables : Tables) (given : List Place) : Place → Type 0 where
  Given : {place : Place} → In place given → Doomed schema tables given place
  Child : {child parent : Place} (relation : Relation) → In relation schema.relations → relation.on_delete ≡ Cascade → In child.row (tables.rows child.table) → refers relation child parent ≡ true → Doomed schema tables given parent
      → Doomed schema tables given child

-- the doomed rows as a list
pub record AreDoomed (schema : Schema) (tables : Tables) (given doomed : List Place) : Type 0 where
  pub all : (place : Place) → Doomed schema tables given place → In place doomed
  pub only : (place : Place) → In place doomed → Doomed schema tables given place

-- ---- the same by computing

abbrev pub same_place : Place → Place → Bool
same_place one other = one.table == other.table && are_same one.row.values other.row.values

-- all rows, by table and id
abbrev pub places : Schema → Tables → List Place
places schema tables = flat_map (λ table. map (place_of table) (tables.rows table)) (range_with_len 0 (length schema.tables))

-- a given row, one that is marked, or a child of one
abbrev pub is_hit : Schema → List Place → List Place → Place → Bool
is_hit schema given marked place =
    list_any (same_place place) given || list_any (same_place place) marked || list_any (λ relation. is_cascade relation.on_delete && list_any (refers relation place) marked) schema.relations

-- the rows that are marked after so many rounds
abbrev pub marked_after : Schema → List Place → List Place → ℕ → List Place
marked_after schema all given zero = []
marked_after schema all given (suc rounds) = filter (is_hit schema given (marked_after schema all given rounds)) all

-- as many rounds as there are rows, and one more, are enough
abbrev pub doomed_by : Schema → Tables → List Place → List Place
doomed_by schema tables given = marked_after schema (places schema tables) given (suc (length (places schema tables)))

-- each given row is there, and each relation's child is a table
pub record CanDelete (schema : Schema) (tables : Tables) (given : List Place) : Type 0 where
  pub there : (place : Place) → In place given → In place (places schema tables)
  pub children : (relation : Relation) → In relation schema.relations → relation.child.0 < length schema.tables
