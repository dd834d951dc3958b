-- Tables of a sound schema by their numbers.
use Rattle.std.proofs.Common.{◌≡◌, ℕ, ◌≤◌, length, Some}
use Rattle.std.specs.Prelude.{slice_get}
use Rattle.qe_base.specs.declared.schema.Table.{Table}
use Rattle.qe_base.specs.Schemas.{Schema}
use Rattle.qe_schema.specs.Sound.{IsSound}
use Rattle.qe_schema.proofs.Members.{in_place}

-- the columns of a table
pub columns_within : (schema : Schema) → IsSound schema → (number : ℕ) (table : Table) → slice_get schema.tables number ≡ Some table → length table.columns ≤ 128
columns_within schema sound number table at = (sound.narrow table (in_place schema.tables number table at)).columns
