-- What a database of a schema is laid out by: the tables, the enums and the foreign keys.
use Rattle.std.specs.Prelude.{◌≡◌, ℕ, List, map, filter, ◌==◌}
use Rattle.qe_base.specs.declared.schema.Choice.{Choice}
use Rattle.qe_base.specs.declared.schema.Relation.{Relation}
use Rattle.qe_base.specs.declared.schema.Table.{Table}
use Rattle.qe_base.specs.Schemas.{Schema}
use Rattle.qe_schema.specs.Sound.{IsSound}
use Rattle.qe_view.specs.declared.layout.ForeignKey.{ForeignKey}

-- The models and then the link tables, the enums, and the foreign keys in the order of their relations.
pub record Layout : Type 0 where
  pub tables : List Table
  pub choices : List Choice
  pub foreign_keys : List ForeignKey

-- the columns by which the child of a relation refers to its parent
abbrev pub foreign_key_of : Relation → ForeignKey
foreign_key_of relation = record { child = relation.child; columns = relation.child_columns }

abbrev pub layout_of : Schema → Layout
layout_of schema = record { tables = schema.tables; choices = schema.choices; foreign_keys = map foreign_key_of schema.relations }

-- the columns of each foreign key that a table has
abbrev pub foreign_columns : ℕ → List ForeignKey → List (List ℕ)
foreign_columns table keys = map (λ key. key.columns) (filter (λ key. key.child.0 == table) keys)

-- the layout of a sound schema
abbrev pub IsLayout : Layout → Type 0
IsLayout layout = (schema : Schema) × IsSound schema × (layout ≡ layout_of schema)
