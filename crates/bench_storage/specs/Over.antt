-- What is asked of a connector that is attached.
use Rattle.std.specs.Prelude.{◌≡◌, [], List, Option, Some, Result, IfOk, IfSome}
use Rattle.qe_base.specs.declared.value.Row.{Row}
use Rattle.qe_base.specs.declared.value.Rows.{Rows}
use Rattle.qe_schema.specs.Tables.{Tables}
use Rattle.qe_view.specs.Attached.{Connected}
use Rattle.qe_view.specs.Layouts.{Layout}

-- it is attached at the place without a name, with this layout
abbrev pub IsOver : Layout → Connected → Type 0
IsOver layout seen = seen.attached ≡ Some (record { place = []; layout = layout })

-- the rows that came are those of the told tables
abbrev pub Gives : {E : Type 0} → Option Tables → (Tables → List Row) → Result Rows E → Type 0
Gives told rows_of result = IfOk result (λ found. IfSome told (λ tables. found.rows ≡ rows_of tables))
