-- The part of an ordered list that an operation asks for.
use Rattle.std.specs.Prelude.{◌≡◌, ℕ, ℤ, pos, List, [], ◌∷◌, Bool, true, false, not, filter, reverse, take, drop, int_lt, nat_abs, slice_get, Option, Some, None}
use Rattle.std.specs.List.{AllByRecursion}
use Rattle.qe_base.specs.declared.value.Row.{Row}
use Rattle.qe_base.specs.declared.schema.Key.{Key}
use Rattle.qe_base.specs.declared.schema.Table.{Table}
use Rattle.qe_base.specs.declared.query.Page.{Page}
use Rattle.qe_base.specs.declared.query.Unique.{Unique}
use Rattle.qe_schema.specs.Columns.{at_columns, are_same, holds}

-- the first row of each combination of values in the columns; null equals null
abbrev pub one_of_each : List ℕ → List Row → List Row
one_of_each columns [] = []
one_of_each columns (row ∷ rows) = row ∷ filter (λ later. not (are_same (at_columns columns row) (at_columns columns later))) (one_of_each columns rows)

-- no two rows have the same values in the columns
abbrev pub AreDistinct : List ℕ → List Row → Type 0
AreDistinct columns [] = Unit {0}
AreDistinct columns (row ∷ rows) = AllByRecursion (λ later. are_same (at_columns columns row) (at_columns columns later) ≡ false) rows × AreDistinct columns rows

-- with no columns, all rows
abbrev pub distinct_by : List ℕ → List Row → List Row
distinct_by [] rows = rows
distinct_by (column ∷ columns) rows = one_of_each (column ∷ columns) rows

-- a negative number of rows is counted from the end
abbrev pub is_backward : Option ℤ → Bool
is_backward None = false
is_backward (Some count) = int_lt count (pos 0)

abbrev pub turned : Bool → List Row → List Row
turned false rows = rows
turned true rows = reverse rows

abbrev pub columns_of : Option Key → List ℕ
columns_of None = []
columns_of (Some key) = key.columns

-- the row has the values of the key
abbrev pub is_at : Table → Unique → Row → Bool
is_at table at row = holds (columns_of (slice_get table.keys at.key)) at.values.values row

abbrev pub kept_from : Bool → List Row → List Row → List Row
kept_from true here later = here
kept_from false here later = later

-- what is left from the first such row on, nothing where there is none
abbrev pub from_first : (Row → Bool) → List Row → List Row
from_first test [] = []
from_first test (row ∷ rows) = kept_from (test row) (row ∷ rows) (from_first test rows)

abbrev pub from_cursor : Table → Option Unique → List Row → List Row
from_cursor table None rows = rows
from_cursor table (Some cursor) rows = from_first (is_at table cursor) rows

abbrev pub front_of : Option ℤ → List Row → List Row
front_of None rows = rows
front_of (Some count) rows = take (nat_abs count) rows

-- the part of a list that is in its final direction: from the cursor on, without those that are skipped, and no more than are taken
abbrev pub part_of : Table → Page → List Row → List Row
part_of table page rows = front_of page.take (drop page.skip (from_cursor table page.cursor rows))

-- the page of an ordered list: without repeats, then from its end or from its front
abbrev pub page_of : Table → Page → List Row → List Row
page_of table page rows = turned (is_backward page.take) (part_of table page (turned (is_backward page.take) (distinct_by page.distinct rows)))
