-- The order of values, and when two are one.
use Rattle.std.specs.Prelude as Prelude
use Rattle.std.specs.Prelude.{ℕ, ℤ, pos, List, [], true, false, Option}
use Rattle.std.specs.Ordering.{nat_cmp, int_cmp, on, then_cmp, as_partial_cmp, eq_by_cmp}
use Rattle.std.specs.Cmp.Lexicographic.{slice_cmp}
use Rattle.std.specs.declared.cmp.Ordering.{Ordering}
use Rattle.qe_base.specs.declared.value.Row.{Row}
use Rattle.qe_base.specs.declared.value.Value.{Value}
use Rattle.qe_base.specs.declared.value.Value.TheVariants.{Null, Text, Bool, Int, Moment, Blob, Member}

-- null before all else; a column has values of one kind, so the order of the kinds is never seen
abbrev pub rank : Value → ℕ
rank Null = 0
rank (Text text) = 1
rank (Bool truth) = 2
rank (Int number) = 3
rank (Moment moment) = 4
rank (Blob bytes) = 5
rank (Member member) = 6

abbrev pub bytes_in : Value → List ℕ
bytes_in Null = []
bytes_in (Text text) = text
bytes_in (Bool truth) = []
bytes_in (Int number) = []
bytes_in (Moment moment) = []
bytes_in (Blob bytes) = bytes
bytes_in (Member member) = []

abbrev pub truth_number : Prelude.Bool → ℤ
truth_number false = pos 0
truth_number true = pos 1

abbrev pub number_in : Value → ℤ
number_in Null = pos 0
number_in (Text text) = pos 0
number_in (Bool truth) = truth_number truth
number_in (Int number) = number
number_in (Moment moment) = moment
number_in (Blob bytes) = pos 0
number_in (Member member) = pos member

-- texts and blobs by their bytes, false before true, numbers by size
abbrev pub value_cmp : Value → Value → Ordering
value_cmp = then_cmp (on rank nat_cmp) (then_cmp (on bytes_in (slice_cmp nat_cmp)) (on number_in int_cmp))

abbrev pub value_partial_cmp : Value → Value → Option Ordering
value_partial_cmp = as_partial_cmp value_cmp

abbrev pub value_eq : Value → Value → Prelude.Bool
value_eq = eq_by_cmp value_cmp

-- rows by the first values that differ
abbrev pub row_cmp : Row → Row → Ordering
row_cmp = on (λ row. row.values) (slice_cmp value_cmp)

abbrev pub row_partial_cmp : Row → Row → Option Ordering
row_partial_cmp = as_partial_cmp row_cmp

abbrev pub row_eq : Row → Row → Prelude.Bool
row_eq = eq_by_cmp row_cmp
