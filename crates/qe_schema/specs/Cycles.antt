-- Updates that cascade form no cycle.
use Rattle.std.specs.Prelude.{◌≡◌, ℕ, Bool, true, false, ◌&&◌, ◌==◌, List}
use Rattle.std.specs.List.{list_any}
use Rattle.qe_text.specs.Lists.{In}
use Rattle.qe_base.specs.declared.schema.Action.{Action}
use Rattle.qe_base.specs.declared.schema.Action.TheVariants.{Cascade, Restrict, SetNull}
use Rattle.qe_base.specs.declared.schema.Relation.{Relation}
use Rattle.qe_base.specs.Schemas.{Schema}

abbrev pub is_cascade : Action → Bool
is_cascade Cascade = true
is_cascade Restrict = false
is_cascade SetNull = false

-- the lists have a column in common
abbrev pub meet : List ℕ → List ℕ → Bool
meet columns others = list_any (λ column. list_any (λ other. column == other) others) columns

-- a relation to the table of this one refers to columns that this one changes
abbrev pub goes_on_by : Relation → Relation → Bool
goes_on_by relation next = next.parent.0 == relation.child.0 && meet relation.child_columns next.parent_columns

-- a relation whose updates cascade, and may cascade on
abbrev pub is_arrow : Schema → Relation → Bool
is_arrow schema relation = is_cascade relation.on_update && list_any (goes_on_by relation) schema.relations

-- arrows lead from the one table to the other, one behind another
pub data Chain (schema : Schema) : ℕ → ℕ → Type 0 where
  one : (relation : Relation) → In relation schema.relations → is_arrow schema relation ≡ true → Chain schema relation.parent.0 relation.child.0
  more : {to : ℕ} (relation : Relation) → In relation schema.relations → is_arrow schema relation ≡ true → Chain schema relation.child.0 to → Chain schema relation.parent.0 to

abbrev pub NoCycle : Schema → Type 0
NoCycle schema = (table : ℕ) → Chain schema table table → ⊥
