-- Only a value itself equals it, and so with lists of values and rows.
use Rattle.std.proofs.Common.{◌≡◌, ℕ, zero, suc, ℤ, pos, negsuc, List, [], ◌∷◌, Bool, is_eq, true, false, refl, sym, ap, subst, ◌∙◌}
use Rattle.std.proofs.lemmas.Map.Lookups.{CmpEqualImpliesEq, exact_signed, exact_unsigned, exact_bytes}
use Rattle.std.proofs.lemmas.Map.Views.{tells_apart}
use Rattle.std.specs.Ordering.{nat_cmp, int_cmp, ordering_then}
use Rattle.std.specs.Cmp.Lexicographic.{slice_cmp, pointwise_decides, lists_ties}
use Rattle.std.specs.declared.cmp.Ordering.{Ordering}
use Rattle.std.specs.declared.cmp.Ordering.TheVariants.{Less, Equal, Greater}
use Rattle.qe_base.specs.Values.{rank, bytes_in, number_in, value_cmp, value_eq, row_cmp}
use Rattle.qe_base.specs.ValueOrder.{value_eq_equivalence}
use Rattle.qe_base.specs.declared.value.Row.{Row}
use Rattle.qe_base.specs.declared.value.Value.{Value}
use Rattle.qe_base.specs.declared.value.Value.TheVariants.{Null, Text, Bool as Truth, Int, Moment, Blob, Member}
use Rattle.qe_schema.specs.Columns.{Values, are_same}

-- ---- a value by its rank, its bytes and its number

abbrev truth_of : ℤ → Bool
truth_of (pos zero) = false
truth_of (pos (suc number)) = true
truth_of (negsuc number) = false

abbrev member_of : ℤ → ℕ
member_of (pos number) = number
member_of (negsuc number) = 0

abbrev value_from : ℕ → List ℕ → ℤ → Value
value_from zero bytes number = Null
value_from (suc zero) bytes number = Text bytes
value_from (suc (suc zero)) bytes number = Truth (truth_of number)
value_from (suc (suc (suc zero))) bytes number = Int number
value_from (suc (suc (suc (suc zero)))) bytes number = Moment number
value_from (suc (suc (suc (suc (suc zero))))) bytes number = Blob bytes
value_from (suc (suc (suc (suc (suc (suc more)))))) bytes number = Member (member_of number)

again : (value : Value) → value_from (rank value) (bytes_in value) (number_in value) ≡ value
again Null = refl
again (Text text) = refl
again (Truth true) = refl
again (Truth false) = refl
again (Int number) = refl
again (Moment moment) = refl
again (Blob bytes) = refl
again (Member member) = refl

both_equal : (r s : Ordering) → ordering_then r s ≡ Equal → (r ≡ Equal) × (s ≡ Equal)
both_equal Less s is = absurd cc
both_equal Equal s is = (refl, is)
both_equal Greater s is = absurd cc

exact_value : CmpEqualImpliesEq value_cmp
exact_value a b is =
    let first = both_equal (nat_cmp (rank a) (rank b)) (ordering_then (slice_cmp nat_cmp (bytes_in a) (bytes_in b)) (int_cmp (number_in a) (number_in b))) is in
    let second = both_equal (slice_cmp nat_cmp (bytes_in a) (bytes_in b)) (int_cmp (number_in a) (number_in b)) first.1 in
    sym (again a) ∙ (λ i. value_from (exact_unsigned (rank a) (rank b) first.0 i) (exact_bytes (bytes_in a) (bytes_in b) second.0 i) (exact_signed (number_in a) (number_in b) second.1 i)) ∙ again b

pub same_value : (a b : Value) → value_eq a b ≡ true → a ≡ b
same_value a b = tells_apart exact_value a b

pub value_decides : (a b : Value) → (value_eq a b ≡ true → a ≡ b) × (a ≡ b → value_eq a b ≡ true)
value_decides a b = (same_value a b, λ is. subst (λ c. value_eq a c ≡ true) is (value_eq_equivalence.refl a))

-- ---- lists of values, and rows

pub same_values : (a b : Values) → are_same a b ≡ true → a ≡ b
same_values a b = (pointwise_decides value_decides a b).0

pub values_same : (a b : Values) → a ≡ b → are_same a b ≡ true
values_same a b = (pointwise_decides value_decides a b).1

pub same_row : (a b : Row) → are_same a.values b.values ≡ true → a ≡ b
same_row a b is = ap (λ values. record { values = values }) (same_values a.values b.values is)

exact_values : CmpEqualImpliesEq (slice_cmp value_cmp)
exact_values [] [] is = refl
exact_values [] (y ∷ ys) is = absurd cc
exact_values (x ∷ xs) [] is = absurd cc
exact_values (x ∷ xs) (y ∷ ys) is = let both = both_equal (value_cmp x y) (slice_cmp value_cmp xs ys) is in λ i. exact_value x y both.0 i ∷ exact_values xs ys both.1 i

pub exact_row : CmpEqualImpliesEq row_cmp
exact_row a b is = λ i. record { values = exact_values a.values b.values is i }

-- ids are the same where they compare so as rows
pub same_as_rows : (a b : Row) → are_same a.values b.values ≡ is_eq (row_cmp a b)
same_as_rows a b = lists_ties value_cmp (λ x y. refl) a.values b.values
