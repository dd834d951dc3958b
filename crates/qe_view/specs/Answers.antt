-- What the calls of a connector or of a view answer, and when they are refused.
use Rattle.std.specs.Prelude.{◌≡◌, ◌<◌, ℕ, ℤ, pos, int_lt, Bool, true, false, is_some, List, length, Option, option_map, Result, OnOk, OnErr, IfOk, IfErr, IsErrOf, IsErrAnd, IfSome}
use Rattle.std.specs.List.{list_all}
use Rattle.qe_base.specs.Causes.{CountsFaults, HasCause}
use Rattle.qe_base.specs.declared.value.Rows.{Rows}
use Rattle.qe_base.specs.declared.value.Row.{Row}
use Rattle.qe_base.specs.Schemas.{Schema}
use Rattle.qe_schema.specs.Fits.{fit_columns}
use Rattle.qe_schema.specs.Tables.{Tables, table_at}
use Rattle.qe_view.specs.After.{after_all}
use Rattle.qe_view.specs.Attached.{Connected, FitLayout, OfShapes}
use Rattle.qe_view.specs.Calls.{CallCounts, with_apply}
use Rattle.qe_view.specs.declared.changes.Change.{Change}
use Rattle.qe_view.specs.declared.changes.ConnFault.{ConnFault}
use Rattle.qe_view.specs.declared.changes.ConnFault.TheVariants.{Failed, Misfit, Memory}

-- the rows are those of the told tables
abbrev pub GivesRows : Option Tables → (Tables → List Row) → Result Rows ConnFault → Type 0
GivesRows told rows_of result = IfOk result (λ found. IfSome told (λ tables. found.rows ≡ rows_of tables))

-- told or not, each row has one value for each column of the table
abbrev pub RowsFit : Schema → ℕ → Result Rows ConnFault → Type 0
RowsFit schema table result = IfOk result (λ found. list_all (λ row. fit_columns schema.choices (table_at schema table).columns row.values) found.rows ≡ true)

-- the number is the counter of the told table, and told or not it isn't below 0
abbrev pub GivesLast : Option Tables → ℕ → Result ℤ ConnFault → Type 0
GivesLast told table result = IfOk result (λ last. (int_lt last (pos 0) ≡ false) × IfSome told (λ tables. last ≡ tables.last table))

abbrev pub is_misfit : ConnFault → Bool
is_misfit Failed = false
is_misfit (Misfit table column) = true
is_misfit Memory = false

-- the refusal names a column of the schema, where it names one
abbrev pub NamesColumn : Schema → ConnFault → Type 0
NamesColumn schema Failed = Unit {0}
NamesColumn schema (Misfit table column) = (table.0 < length schema.tables) × (column < length (table_at schema table.0).columns)
NamesColumn schema Memory = Unit {0}

abbrev pub IsMisfit : {T : Type 0} → Result T ConnFault → Type 0
IsMisfit result = IsErrAnd result (λ fault. is_misfit fault ≡ true)

-- `Failed` comes just where the count of faults rose, and not from what can't fail; `Misfit` just where that of
-- misfits rose, and not from what tells its tables.
pub record HasCauses {T : Type 0} (before after : Connected) (result : Result T ConnFault) : Type 0 where
  pub failed : HasCause before.faults after.faults (IsErrOf result Failed)
  pub misfit : CountsFaults before.misfits after.misfits (IsMisfit result)
  pub tells : is_some before.told ≡ true → IsMisfit result → ⊥

-- one call was made, by which nothing but counts changed
pub record OnlyAsked {T : Type 0} (one : CallCounts → CallCounts) (before after : Connected) (result : Result T ConnFault) : Type 0 where
  pub causes : HasCauses before after result
  pub column : OfShapes before (λ shapes. IfErr result (NamesColumn shapes))
  pub fits : FitLayout after
  pub others : after ≡ record before { faults = after.faults; misfits = after.misfits; calls = one before.calls }

-- all changes were made to the told tables, or after a refusal none; nothing else but counts changed
pub record Applies (changes : List Change) (before after : Connected) (result : Result (Unit {0}) ConnFault) : Type 0 where
  pub ok : OnOk result (OfShapes before (λ shapes. after.told ≡ option_map (after_all shapes changes) before.told))
  pub err : OnErr result (after.told ≡ before.told)
  pub cause : HasCause before.faults after.faults (IsErrOf result Failed)
  pub misfit : IsMisfit result → ⊥
  pub fits : FitLayout after
  pub others : after ≡ record before { told = after.told; faults = after.faults; calls = with_apply before.calls }
