-- No two rows of a table agree on a key.
use Rattle.std.specs.Prelude.{◌≡◌, ℕ, true, List, slice_get, Some}
use Rattle.std.specs.List.{list_all}
use Rattle.qe_base.specs.declared.answer.Outside.{Outside}
use Rattle.qe_base.specs.declared.schema.Key.{Key}
use Rattle.qe_base.specs.declared.value.Row.{Row}
use Rattle.qe_base.specs.declared.write.Op.{Op}
use Rattle.qe_base.specs.Schemas.{Schema}
use Rattle.qe_schema.specs.Columns.{at_columns, holds}
use Rattle.qe_schema.specs.Fits.{FitsSchema}
use Rattle.qe_schema.specs.Tables.{Tables, table_at}
use Rattle.qe_writing.specs.Batch.{plain_all}
use Rattle.qe_writing.specs.Plain.{plain}
use Rattle.qe_writing.specs.WriteFits.{op_fits}

-- two rows of a table that hold the same values in a key, none of them null, are one row, at one place
abbrev pub NoKeyTwice : Schema → Tables → Type 0
NoKeyTwice schema tables =
    (table number : ℕ) (key : Key) → slice_get (table_at schema table).keys number ≡ Some key → (first second : ℕ) (one other : Row) → slice_get (tables.rows table) first ≡ Some one → slice_get (tables.rows table) second ≡ Some other
    → holds key.columns (at_columns key.columns one) other ≡ true → first ≡ second

-- an operation that fits, over tables that fit
abbrev pub OperationsRepeatNoKey : Schema → Type 0
OperationsRepeatNoKey schema = (op : Op) (outside : Outside) (tables : Tables) → op_fits schema op ≡ true → FitsSchema schema tables → NoKeyTwice schema (plain schema op outside tables).tables

-- a batch of such operations
abbrev pub BatchesRepeatNoKey : Schema → Type 0
BatchesRepeatNoKey schema = (ops : List Op) (outside : Outside) (tables : Tables) → list_all (op_fits schema) ops ≡ true → FitsSchema schema tables → NoKeyTwice schema (plain_all schema ops outside tables).tables
