-- The keys of tables.
use Rattle.std.specs.Prelude.{◌≡◌, ℕ, ◌<◌, ◌≤◌, false, length, slice_get, IfSome}
use Rattle.qe_text.specs.Lists.{In}
use Rattle.qe_base.specs.declared.schema.Column.{Column}
use Rattle.qe_base.specs.declared.schema.Key.{Key}
use Rattle.qe_base.specs.declared.schema.Table.{Table}
use Rattle.qe_base.specs.Schemas.{Schema}
use Rattle.qe_schema.specs.Tables.{id_columns}

-- a key has columns, which the table has
pub record KeyStands (table : Table) (key : Key) : Type 0 where
  pub some : 1 ≤ length key.columns
  pub there : (column : ℕ) → In column key.columns → column < length table.columns

-- a table has an id, its first key, and all keys stand
pub record HasKeys (table : Table) : Type 0 where
  pub id : 1 ≤ length table.keys
  pub stand : (key : Key) → In key table.keys → KeyStands table key

abbrev pub HaveKeys : Schema → Type 0
HaveKeys schema = (table : Table) → In table schema.tables → HasKeys table

-- the columns of an id are required
abbrev pub HasRequiredId : Table → Type 0
HasRequiredId table = (column : ℕ) → In column (id_columns table) → IfSome (slice_get table.columns column) (λ (found : Column). found.optional ≡ false)

abbrev pub HaveRequiredIds : Schema → Type 0
HaveRequiredIds schema = (table : Table) → In table schema.tables → HasRequiredId table
