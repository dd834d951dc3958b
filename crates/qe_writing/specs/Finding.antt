-- The rows that a write is asked for.
use Rattle.std.specs.Prelude.{ℕ, List, [], ◌∷◌, filter, Option, Result, Ok}
use Rattle.qe_base.specs.declared.query.Filter.{Filter}
use Rattle.qe_base.specs.declared.query.Unique.{Unique}
use Rattle.qe_base.specs.declared.value.Row.{Row}
use Rattle.qe_base.specs.declared.answer.Rule.{Rule}
use Rattle.qe_base.specs.Schemas.{Schema}
use Rattle.qe_reading.specs.Read.{found_at}
use Rattle.qe_reading.specs.Truth.{truth_of}
use Rattle.qe_schema.specs.Tests.{is_yes}
use Rattle.qe_writing.specs.WriteState.{WriteState, ◌>>=◌, or_absent}

abbrev pub found : Schema → ℕ → Unique → WriteState → Option Row
found schema table at state = found_at schema state.tables table at

-- the first of them that isn't there is refused
abbrev pub all_found : Schema → ℕ → List Unique → WriteState → Result (List Row) Rule
all_found schema table [] state = Ok []
all_found schema table (at ∷ others) state = do
  row ← or_absent table (found schema table at state)
  rows ← all_found schema table others state
  Ok (row ∷ rows)

-- those of the rows that the filter holds of
abbrev pub passing : Schema → ℕ → Filter → List Row → WriteState → List Row
passing schema table matching rows state = filter (λ row. is_yes (truth_of schema state.tables matching table row)) rows
