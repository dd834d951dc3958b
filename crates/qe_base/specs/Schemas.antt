-- Schemas as contracts see them, and finding a table, an enum or a link table in one.
use Rattle.std.specs.Prelude.{ℕ, List, Option, option_map, bytes_eq, ◌==◌, position, find}
use Rattle.qe_base.specs.declared.value.TableId.{TableId}
use Rattle.qe_base.specs.declared.schema.Table.{Table}
use Rattle.qe_base.specs.declared.schema.Relation.{Relation}
use Rattle.qe_base.specs.declared.schema.Link.{Link}
use Rattle.qe_base.specs.declared.schema.Choice.{Choice}

-- The models and then the link tables, the relations by the fields that hold them, what links the link
-- tables keep, and the enums.
pub record Schema : Type 0 where
  pub tables : List Table
  pub relations : List Relation
  pub links : List Link
  pub choices : List Choice

-- the number of the first table of this name
abbrev pub table_named : List ℕ → List Table → Option TableId
table_named name tables = option_map (λ number. record { 0 = number }) (position (λ table. bytes_eq table.name name) tables)

-- the link that this table keeps
abbrev pub link_of : ℕ → List Link → Option Link
link_of table links = find (λ link. link.table.0 == table) links
