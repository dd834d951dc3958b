-- What the engine needs of a schema.
use Rattle.qe_base.specs.Schemas.{Schema}
use Rattle.qe_schema.specs.Cycles.{NoCycle}
use Rattle.qe_schema.specs.Fields.{ColumnsSuit, FieldsLeadRightly}
use Rattle.qe_schema.specs.Keys.{HaveKeys, HaveRequiredIds}
use Rattle.qe_schema.specs.Limits.{IsSmall, AreNarrow}
use Rattle.qe_schema.specs.Links.{LinksAgree, LinksHaveTables, LinkTablesHaveTwoColumns}
use Rattle.qe_schema.specs.Names.{NamesDiffer, ModelNamesDiffer, HaveDistinctNames}
use Rattle.qe_schema.specs.References.{ReferRightly, AgreeInColumns, ReferredAreRequired, ReferToKeys}

pub record IsSound (schema : Schema) : Type 0 where
  -- there are few tables and relations, and few columns and fields in a table
  pub small : IsSmall schema
  pub narrow : AreNarrow schema
  -- stored names of tables differ, names of models, and names within a table
  pub stored : NamesDiffer schema
  pub models : ModelNamesDiffer schema
  pub names : HaveDistinctNames schema
  -- each table has an id, whose columns are required, and keys have columns
  pub keys : HaveKeys schema
  pub ids : HaveRequiredIds schema
  -- relations refer to keys, whose columns are required, in columns that agree with them
  pub refer : ReferRightly schema
  pub agree : AgreeInColumns schema
  pub required : ReferredAreRequired schema
  pub behind : ReferToKeys schema
  -- updates that cascade never come back to a table
  pub cycles : NoCycle schema
  -- links have link tables, of two columns of the kinds of the ids that they refer to
  pub links : LinksAgree schema
  pub link_tables : LinksHaveTables schema
  pub two_columns : LinkTablesHaveTwoColumns schema
  -- fills suit their columns, and fields lead where their relations say
  pub columns : ColumnsSuit schema
  pub fields : FieldsLeadRightly schema
