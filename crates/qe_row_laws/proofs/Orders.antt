-- The order of ids and of pairs: it is total, and only equal pairs are the same.
use Rattle.std.proofs.Common.{◌≡◌, true, refl, sym, ap, ◌∙◌, true≢false, Ordering, Less, Equal, Greater}
use Rattle.std.specs.Ordering.{is_lt, is_gt, ordering_reverse}
use Rattle.std.specs.Cmp.{IsTotalOrder, then_total, on_total}
use Rattle.std.specs.Cmp.Lexicographic.{lists_total}
use Rattle.std.proofs.lemmas.Bool.{and_parts}
use Rattle.qe_base.specs.ValueOrder.{value_cmp_total}
use Rattle.qe_base.specs.Values.{value_eq}
use Rattle.qe_base.specs.declared.value.Value.{Value}
use Rattle.qe_schema.specs.Columns.{values_cmp}
use Rattle.qe_schema.specs.Pairs.{pair_cmp, is_pair}
use Rattle.qe_schema.proofs.Equal.{same_value}

pub values_cmp_total : IsTotalOrder values_cmp
values_cmp_total = lists_total value_cmp_total

pub pair_cmp_total : IsTotalOrder pair_cmp
pair_cmp_total = then_total (on_total (λ (pair : Value × Value). pair.0) value_cmp_total) (on_total (λ (pair : Value × Value). pair.1) value_cmp_total)

pub same_pair : (one other : Value × Value) → is_pair one other ≡ true → one ≡ other
same_pair one other is =
    let parts = and_parts (value_eq one.0 other.0) (value_eq one.1 other.1) is in
    λ i. (same_value one.0 other.0 parts.0 i, same_value one.1 other.1 parts.1 i)

-- ---- what an answer says

pub less_is : (order : Ordering) → is_lt order ≡ true → order ≡ Less
less_is Less is = refl
less_is Equal is = absurd (true≢false (sym is))
less_is Greater is = absurd (true≢false (sym is))

pub greater_is : (order : Ordering) → is_gt order ≡ true → order ≡ Greater
greater_is Less is = absurd (true≢false (sym is))
greater_is Equal is = absurd (true≢false (sym is))
greater_is Greater is = refl

pub not_both : (order : Ordering) → is_lt order ≡ true → is_gt order ≡ true → ⊥
not_both Less less greater = true≢false (sym greater)
not_both Equal less greater = true≢false (sym greater)
not_both Greater less greater = true≢false (sym less)

-- what is greater, the other way round
pub turned : {K : Type 0} {R : K → K → Ordering} (total : IsTotalOrder R) (x y : K) → is_gt (R y x) ≡ true → R x y ≡ Less
turned {K} {R} total x y is = total.antisymm x y ∙ ap ordering_reverse (greater_is (R y x) is)
