-- What operations keep, where they fit the schema.
use Rattle.std.specs.Prelude.{◌≡◌, ℕ, Bool, true, List, [], IfOk}
use Rattle.std.specs.List.{list_all}
use Rattle.qe_base.specs.declared.answer.Outside.{Outside}
use Rattle.qe_base.specs.declared.write.Create.{Create}
use Rattle.qe_base.specs.declared.write.Update.{Update}
use Rattle.qe_base.specs.declared.write.Op.{Op}
use Rattle.qe_base.specs.Schemas.{Schema}
use Rattle.qe_schema.specs.Columns.{Values}
use Rattle.qe_schema.specs.Fits.{FitsSchema}
use Rattle.qe_schema.specs.Tables.{Tables}
use Rattle.qe_writing.specs.Batch.{plain_all}
use Rattle.qe_writing.specs.Plain.{plain}
use Rattle.qe_writing.specs.Write.{write_new, write_old}
use Rattle.qe_writing.specs.WriteFits.{create_fits, update_fits, op_fits}

-- a new row with its steps, where the write is accepted
abbrev pub CreatesKeep : Schema → (Tables → Type 0) → Type 0
CreatesKeep schema Fact =
    (outside : Outside) (table : ℕ) (create : Create) (drawn : ℕ) (tables : Tables) → (create_fits schema create).fits table [] ≡ true → Fact tables → IfOk (write_new schema outside table create drawn tables) (λ done. Fact done.tables)

-- a row that is changed with its steps, where the write is accepted
abbrev pub UpdatesKeep : Schema → (Tables → Type 0) → Type 0
UpdatesKeep schema Fact =
    (outside : Outside) (table : ℕ) (id : Values) (update : Update) (drawn : ℕ) (tables : Tables) → (update_fits schema update).fits table ≡ true → Fact tables → IfOk (write_old schema outside table id update drawn tables) (λ done. Fact done.tables)

abbrev pub OperationsKeep : Schema → (Tables → Type 0) → Type 0
OperationsKeep schema Fact = (op : Op) (outside : Outside) (tables : Tables) → op_fits schema op ≡ true → Fact tables → Fact (plain schema op outside tables).tables

abbrev pub BatchesKeep : Schema → (Tables → Type 0) → Type 0
BatchesKeep schema Fact = (ops : List Op) (outside : Outside) (tables : Tables) → list_all (op_fits schema) ops ≡ true → Fact tables → Fact (plain_all schema ops outside tables).tables

-- tables that fit the schema and pass a test
abbrev pub FitAndPass : Schema → (Tables → Bool) → Tables → Type 0
FitAndPass schema test tables = FitsSchema schema tables × (test tables ≡ true)
