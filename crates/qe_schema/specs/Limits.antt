-- How much of each there is at most.
use Rattle.std.specs.Prelude.{◌≤◌, length}
use Rattle.qe_text.specs.Lists.{In}
use Rattle.qe_base.specs.declared.schema.Table.{Table}
use Rattle.qe_base.specs.Schemas.{Schema}

-- at most 256 tables, with link tables, and at most 256 * 128 relations
pub record IsSmall (schema : Schema) : Type 0 where
  pub tables : length schema.tables ≤ 256
  pub relations : length schema.relations ≤ 32768

-- at most 128 columns and 128 fields
pub record IsNarrow (table : Table) : Type 0 where
  pub columns : length table.columns ≤ 128
  pub fields : length table.fields ≤ 128

abbrev pub AreNarrow : Schema → Type 0
AreNarrow schema = (table : Table) → In table schema.tables → IsNarrow table
