-- Rows that are found by several keys.
use Rattle.std.specs.Prelude.{◌≡◌, List, [], ◌∷◌, Bool, filter}
use Rattle.std.specs.List.{list_any}
use Rattle.qe_base.specs.declared.value.Row.{Row}
use Rattle.qe_schema.specs.Columns.{Values}
use Rattle.qe_mem.specs.Listings.{Listing, has_key}
use Rattle.qe_mem.specs.Turns.{with_row}
use Rattle.qe_mem.specs.declared.keyed.Columns.{Columns}

-- the row has one of the keys
abbrev pub has_one_of : Columns → List Row → Row → Bool
has_one_of columns keys row = list_any (λ key. has_key columns key.values row) keys

abbrev pub with_all : List Row → Listing → Listing
with_all [] listing = listing
with_all (row ∷ rows) listing = with_all rows (with_row row listing)

-- the rows of each key one after another, each at its place
abbrev pub gathered : Listing → List Row → Listing → Listing
gathered listing [] found = found
gathered listing (key ∷ keys) found = gathered listing keys (with_all (filter (has_key listing.columns key.values) listing.rows) found)

-- the rows of each key are those of the table, in its order
abbrev pub IsIndexOf : Listing → Listing → Type 0
IsIndexOf rows listing = (key : Values) → filter (has_key listing.columns key) listing.rows ≡ filter (has_key listing.columns key) rows.rows
