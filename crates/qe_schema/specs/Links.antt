-- Link tables, and the kinds of what they link.
use Rattle.std.specs.Prelude.{◌≡◌, ℕ, [], ◌∷◌, Some, true, false}
use Rattle.qe_base.specs.declared.schema.Column.{Column}
use Rattle.qe_base.specs.declared.schema.Link.{Link}
use Rattle.qe_base.specs.declared.schema.Table.{Table}
use Rattle.qe_base.specs.Schemas.{Schema, link_of}
use Rattle.qe_schema.specs.References.{kinds_at}
use Rattle.qe_schema.specs.Tables.{table_at, is_link, id_columns}

-- The columns of a link table have the kinds of the ids that they refer to, which are of one column each.
pub record LinksAgree (schema : Schema) : Type 0 where
  pub first : (number : ℕ) (link : Link) → link_of number schema.links ≡ Some link → kinds_at schema number (0 ∷ []) ≡ kinds_at schema link.a.0 (id_columns (table_at schema link.a.0))
  pub second : (number : ℕ) (link : Link) → link_of number schema.links ≡ Some link → kinds_at schema number (1 ∷ []) ≡ kinds_at schema link.b.0 (id_columns (table_at schema link.b.0))

-- the table has two columns, both required, which are its id
pub record HasTwoColumns (table : Table) : Type 0 where
  pub id : id_columns table ≡ 0 ∷ 1 ∷ []
  pub first : Column
  pub second : Column
  pub columns : table.columns ≡ first ∷ second ∷ []
  pub required : (first.optional ≡ false) × (second.optional ≡ false)

-- each link has a link table
abbrev pub LinksHaveTables : Schema → Type 0
LinksHaveTables schema = (number : ℕ) (link : Link) → link_of number schema.links ≡ Some link → is_link schema number ≡ true

-- each link table has two columns
abbrev pub LinkTablesHaveTwoColumns : Schema → Type 0
LinkTablesHaveTwoColumns schema = (number : ℕ) → is_link schema number ≡ true → HasTwoColumns (table_at schema number)
