-- What relations refer to, and what the columns on both sides have in common.
use Rattle.std.specs.Prelude.{◌≡◌, ◌<◌, ◌≤◌, ◌↔◌, ℕ, Bool, true, false, List, map, length, Option, Some, option_map}
use Rattle.qe_text.specs.Lists.{In}
use Rattle.qe_base.specs.declared.value.Kind.{Kind}
use Rattle.qe_base.specs.declared.schema.Action.TheVariants.{SetNull}
use Rattle.qe_base.specs.declared.schema.Column.{Column}
use Rattle.qe_base.specs.declared.schema.Key.{Key}
use Rattle.qe_base.specs.declared.schema.Relation.{Relation}
use Rattle.qe_base.specs.declared.schema.Table.{Table}
use Rattle.qe_base.specs.Schemas.{Schema}
use Rattle.qe_schema.specs.Tables.{table_at, column_at}

-- A relation is between two tables; as many columns refer as are referred to, and one at least; and only an
-- optional one sets references to null.
pub record RefersRightly (schema : Schema) (relation : Relation) : Type 0 where
  pub child : relation.child.0 < length schema.tables
  pub parent : relation.parent.0 < length schema.tables
  pub same : length relation.child_columns ≡ length relation.parent_columns
  pub some : 1 ≤ length relation.child_columns
  pub on_delete : relation.on_delete ≡ SetNull → relation.optional ≡ true
  pub on_update : relation.on_update ≡ SetNull → relation.optional ≡ true

abbrev pub ReferRightly : Schema → Type 0
ReferRightly schema = (relation : Relation) → In relation schema.relations → RefersRightly schema relation

abbrev pub kinds_at : Schema → ℕ → List ℕ → List (Option Kind)
kinds_at schema table columns = map (λ column. option_map (λ (found : Column). found.kind) (column_at schema table column)) columns

abbrev pub optional_at : Schema → ℕ → List ℕ → List (Option Bool)
optional_at schema table columns = map (λ column. option_map (λ (found : Column). found.optional) (column_at schema table column)) columns

-- The columns that refer have the kinds of those that they refer to, and each of them is optional as the
-- relation is.
pub record AgreesInColumns (schema : Schema) (relation : Relation) : Type 0 where
  pub kinds : kinds_at schema relation.child.0 relation.child_columns ≡ kinds_at schema relation.parent.0 relation.parent_columns
  pub optional : optional_at schema relation.child.0 relation.child_columns ≡ map (λ column. Some relation.optional) relation.child_columns

abbrev pub AgreeInColumns : Schema → Type 0
AgreeInColumns schema = (relation : Relation) → In relation schema.relations → AgreesInColumns schema relation

-- the columns that relations refer to are required
abbrev pub ReferredAreRequired : Schema → Type 0
ReferredAreRequired schema = (relation : Relation) → In relation schema.relations → optional_at schema relation.parent.0 relation.parent_columns ≡ map (λ column. Some false) relation.parent_columns

-- the columns of one of the table's keys, in any order
abbrev pub AreOfKey : Table → List ℕ → Type 0
AreOfKey table columns = (key : Key) × In key table.keys × ((column : ℕ) → In column columns ↔ In column key.columns)

-- what a relation refers to is a key
abbrev pub ReferToKeys : Schema → Type 0
ReferToKeys schema = (relation : Relation) → In relation schema.relations → AreOfKey (table_at schema relation.parent.0) relation.parent_columns
