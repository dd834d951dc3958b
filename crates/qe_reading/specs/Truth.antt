-- What a filter says of a row, by three values.
use Rattle.std.specs.Prelude as Prelude
use Rattle.std.specs.Prelude.{ℕ, List, [], ◌∷◌, true, false, ◌||◌, not, map, filter, ◌==◌, Option, Some, None}
use Rattle.std.specs.List.{list_any, list_all}
use Rattle.qe_base.specs.declared.value.Row.{Row}
use Rattle.qe_base.specs.declared.query.Quant.{Quant}
use Rattle.qe_base.specs.declared.query.Quant.TheVariants as quant
use Rattle.qe_base.specs.declared.query.Filter.{Filter}
use Rattle.qe_base.specs.declared.query.Filter.TheOpen.{Filter-F}
use Rattle.qe_base.specs.declared.query.Filter.TheOpen as filter
use Rattle.qe_base.specs.declared.query.Filter.TheFolds.{fold-Filter}
use Rattle.qe_base.specs.Schemas.{Schema}
use Rattle.qe_schema.specs.Columns.{value_at}
use Rattle.qe_schema.specs.Tables.{Tables}
use Rattle.qe_schema.specs.Tests.{is_yes, yes_if, test_of}
use Rattle.qe_schema.specs.declared.truth.Truth.{Truth}
use Rattle.qe_schema.specs.declared.truth.Truth.TheVariants.{Yes, No, Unknown}
use Rattle.qe_reading.specs.Related.{other_table, related, one_related}

-- ---- the three values

abbrev pub is_no : Truth → Prelude.Bool
is_no Yes = false
is_no No = true
is_no Unknown = false

abbrev pub is_unknown : Truth → Prelude.Bool
is_unknown Yes = false
is_unknown No = false
is_unknown Unknown = true

abbrev pub opposite : Truth → Truth
opposite Yes = No
opposite No = Yes
opposite Unknown = Unknown

-- No where one is No, else Unknown where one is Unknown
abbrev pub both : Truth → Truth → Truth
both Yes other = other
both No other = No
both Unknown Yes = Unknown
both Unknown No = No
both Unknown Unknown = Unknown

-- Yes where one is Yes, else Unknown where one is Unknown
abbrev pub either : Truth → Truth → Truth
either Yes other = Yes
either No other = other
either Unknown Yes = Yes
either Unknown No = Unknown
either Unknown Unknown = Unknown

-- all of nothing is Yes
abbrev pub all_of : List Truth → Truth
all_of [] = Yes
all_of (part ∷ parts) = both part (all_of parts)

-- any of nothing is No
abbrev pub any_of : List Truth → Truth
any_of [] = No
any_of (part ∷ parts) = either part (any_of parts)

-- ---- filters

-- of how many rows the filter has to be Yes
abbrev pub of_many : Quant → List Truth → Truth
of_many quant.Some truths = yes_if (list_any is_yes truths)
of_many quant.Every truths = yes_if (list_all is_yes truths)
of_many quant.None truths = yes_if (not (list_any is_yes truths))

abbrev pub is_absent : Option Row → Prelude.Bool
is_absent None = true
is_absent (Some row) = false

-- there is a row, and the filter is Yes of it
abbrev pub is_yes_of : (Row → Truth) → Option Row → Prelude.Bool
is_yes_of inner None = false
is_yes_of inner (Some row) = is_yes (inner row)

-- what a filter says of a row of the table of a number
abbrev pub Says : Type 0
Says = ℕ → Row → Truth

abbrev pub truth_step : Schema → Tables → Filter-F Says → Says
truth_step schema tables (filter.All parts) table row = all_of (map (λ part. part table row) parts)
truth_step schema tables (filter.Any parts) table row = any_of (map (λ part. part table row) parts)
truth_step schema tables (filter.Not part) table row = opposite (part table row)
truth_step schema tables (filter.Test column asked) table row = test_of asked (value_at row column)
truth_step schema tables (filter.Many field how inner) table row = of_many how (map (inner (other_table schema table field)) (related schema tables table field row))
truth_step schema tables (filter.One field None) table row = yes_if (is_absent (one_related schema tables table field row))
truth_step schema tables (filter.One field (Some inner)) table row = yes_if (is_yes_of (inner (other_table schema table field)) (one_related schema tables table field row))

-- what the filter says of each row
abbrev pub truth_of : Schema → Tables → Filter → Says
truth_of schema tables = fold-Filter Says (truth_step schema tables)

-- the rows for which the filter is Yes
abbrev pub matching : Schema → Tables → ℕ → Filter → List Row → List Row
matching schema tables table asked rows = Prelude.filter (λ row. is_yes (truth_of schema tables asked table row)) rows
