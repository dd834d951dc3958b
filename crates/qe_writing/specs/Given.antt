-- Values put into columns of a row.
use Rattle.std.specs.Prelude.{ℕ, List, [], ◌∷◌, slice_set}
use Rattle.qe_base.specs.declared.value.Row.{Row}
use Rattle.qe_schema.specs.Columns.{Values}

abbrev pub with_values : List ℕ → Values → Values → Values
with_values [] given values = values
with_values (column ∷ columns) [] values = values
with_values (column ∷ columns) (value ∷ given) values = with_values columns given (slice_set values column value)

-- the row with these values in these columns
abbrev pub with_columns : List ℕ → Values → Row → Row
with_columns columns given row = record { values = with_values columns given row.values }
