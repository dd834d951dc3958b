-- Rows laid together by their ids.
use Rattle.std.specs.Prelude.{ℕ, Bool, not, List, [], ◌∷◌, filter, take, Option, Some, None, if◌then◌else◌}
use Rattle.std.specs.BTreeMap.{insert_entry}
use Rattle.std.specs.Map.{values_of}
use Rattle.qe_base.specs.Values.{row_cmp}
use Rattle.qe_base.specs.declared.schema.Table.{Table}
use Rattle.qe_base.specs.declared.value.Row.{Row}
use Rattle.qe_schema.specs.Tables.{id_of}
use Rattle.qe_view.specs.After.{is_from, turned}
use Rattle.qe_overlay.specs.Layers.{Entry, present, is_entered}

-- the id of a row, as a row
abbrev pub id_row : Table → Row → Row
id_row table row = record { values = id_of table row }

-- rows under their ids, beside those that are laid there; the last one first
abbrev pub put_in : Table → List Row → List (Row × Row) → List (Row × Row)
put_in table [] laid = laid
put_in table (row ∷ rows) laid = insert_entry row_cmp (put_in table rows laid) (id_row table row) row

-- the rows that aren't entered
abbrev pub untouched : Table → List Entry → List Row → List Row
untouched table entries rows = filter (λ row. not (is_entered entries (id_of table row))) rows

abbrev pub row_if : (Row → Bool) → Option Row → List Row
row_if chosen None = []
row_if chosen (Some row) = if chosen row then row ∷ [] else []

-- in the order of their ids: of the rows below those that aren't entered, and of the entered ones those that are chosen
abbrev pub laid_over : Table → List Entry → (Row → Bool) → List Row → List Row
laid_over table entries chosen rows = values_of (put_in table (filter chosen (present entries)) (put_in table (untouched table entries rows) []))

-- a page of them, of a page of the rows below
abbrev pub page_over : Table → List Entry → Option Row → Bool → ℕ → List Row → List Row
page_over table entries from backward count rows = take count (turned backward (laid_over table entries (is_from table from backward) rows))
