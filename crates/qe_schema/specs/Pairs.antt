-- The pairs of a link table: the ids of the two rows that each of them links.
use Rattle.std.specs.Prelude.{◌≡◌, Bool, List, [], ◌∷◌, ◌++◌, ◌&&◌, not, filter}
use Rattle.std.specs.List.{AllByRecursion}
use Rattle.std.specs.Ordering.{is_lt, is_gt, then_cmp, on}
use Rattle.std.specs.declared.cmp.Ordering.{Ordering}
use Rattle.std.specs.declared.cmp.Ordering.TheVariants.{Less}
use Rattle.qe_base.specs.Values.{value_cmp, value_eq}
use Rattle.qe_base.specs.declared.value.Value.{Value}
use Rattle.qe_schema.specs.Columns.{Values}

abbrev pub pair_cmp : (Value × Value) → (Value × Value) → Ordering
pair_cmp = then_cmp (on (λ pair. pair.0) value_cmp) (on (λ pair. pair.1) value_cmp)

abbrev pub is_pair : Value × Value → Value × Value → Bool
is_pair one other = value_eq one.0 other.0 && value_eq one.1 other.1

-- the pairs with this one at its place, once
abbrev pub with_pair : (Value × Value) → List (Value × Value) → List (Value × Value)
with_pair pair pairs = filter (λ other. is_lt (pair_cmp other pair)) pairs ++ pair ∷ filter (λ other. is_gt (pair_cmp other pair)) pairs

-- the pairs but for this one
abbrev pub without_pair : (Value × Value) → List (Value × Value) → List (Value × Value)
without_pair pair pairs = filter (λ other. not (is_pair pair other)) pairs

-- each pair comes before those that stand after it
abbrev pub PairsAscend : List (Value × Value) → Type 0
PairsAscend [] = Unit {0}
PairsAscend (pair ∷ pairs) = AllByRecursion (λ later. pair_cmp pair later ≡ Less) pairs × PairsAscend pairs

-- the values of a pair, as a row of the link table has them
abbrev pub both_values : Value × Value → Values
both_values pair = pair.0 ∷ pair.1 ∷ []
