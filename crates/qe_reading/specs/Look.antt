-- The rows that an operation looks up.
use Rattle.std.specs.Prelude.{ℕ, List, [], None}
use Rattle.qe_base.specs.declared.value.Row.{Row}
use Rattle.qe_base.specs.declared.query.Filter.TheVariants.{All}
use Rattle.qe_base.specs.declared.query.Look.{Look}
use Rattle.qe_base.specs.Schemas.{Schema}
use Rattle.qe_schema.specs.Tables.{Tables, table_at}
use Rattle.qe_reading.specs.Truth.{matching}
use Rattle.qe_reading.specs.Order.{ordered}
use Rattle.qe_reading.specs.Page.{page_of}

-- of these rows of a table those that match, in order, and of them the page
abbrev pub looked_up : Schema → Tables → ℕ → Look → List Row → List Row
looked_up schema tables table look rows = page_of (table_at schema table) look.page (ordered schema tables table look.order (matching schema tables table look.filter rows))

-- a look that asks for nothing
abbrev pub whole_look : Look
whole_look = record { filter = All []; order = []; page = record { distinct = []; cursor = None; skip = 0; take = None } }
