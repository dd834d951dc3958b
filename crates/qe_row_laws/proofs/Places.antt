-- Only a row at its place is itself.
use Rattle.std.proofs.Common.{◌≡◌, true, ◌==◌, refl}
use Rattle.std.proofs.lemmas.Bool.{and_parts, and_from, eqb-true, eq-eqb}
use Rattle.qe_schema.specs.Columns.{are_same}
use Rattle.qe_schema.proofs.Equal.{same_row, values_same}
use Rattle.qe_writing.specs.Doomed.{Place, same_place}

pub places_equal : (a b : Place) → same_place a b ≡ true → a ≡ b
places_equal a b is =
    let parts = and_parts (a.table == b.table) (are_same a.row.values b.row.values) is in
    λ i. record { table = eqb-true a.table b.table parts.0 i; row = same_row a.row b.row parts.1 i }

pub place_itself : (a : Place) → same_place a a ≡ true
place_itself a = and_from (a.table == a.table) (are_same a.row.values a.row.values) (eq-eqb a.table a.table refl) (values_same a.row.values a.row.values refl)
