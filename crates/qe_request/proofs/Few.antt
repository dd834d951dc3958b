-- The columns of the tables that requests name.
use Rattle.std.proofs.Common.{◌≡◌, ℕ, ◌≤◌, length, Some, sym}
use Rattle.std.specs.Prelude.{slice_get}
use Rattle.qe_base.specs.declared.schema.Table.{Table}
use Rattle.qe_base.specs.Schemas.{Schema}
use Rattle.qe_schema.specs.Sound.{IsSound}
use Rattle.qe_schema.proofs.Known.{columns_within}

pub few_found : (schema : Schema) (id : ℕ) (table : Table) → IsSound schema → Some table ≡ slice_get schema.tables id → length table.columns ≤ 128
few_found schema id table sound found = columns_within schema sound id table (sym found)
