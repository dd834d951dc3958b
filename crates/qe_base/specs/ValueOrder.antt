-- The orders of values and of rows are total ones.
use Rattle.std.specs.Cmp.{IsPartialEquivalence, IsEquivalence, IsPartialOrder, IsTotalOrder, then_total, on_total, nat_cmp_total, int_cmp_total, eq_by_cmp_equiv, partial_equiv_from_equiv, po}
use Rattle.std.specs.Cmp.Lexicographic.{nat_list_cmp_total, lists_total}
use Rattle.std.proofs.Common.{refl}
use Rattle.qe_base.specs.Values.{rank, bytes_in, number_in, value_cmp, value_partial_cmp, value_eq, row_cmp, row_partial_cmp, row_eq}

pub value_cmp_total : IsTotalOrder value_cmp
value_cmp_total = then_total (on_total rank nat_cmp_total) (then_total (on_total bytes_in nat_list_cmp_total) (on_total number_in int_cmp_total))

pub value_eq_equivalence : IsEquivalence value_eq
value_eq_equivalence = eq_by_cmp_equiv value_cmp_total

pub value_partial_equivalence : IsPartialEquivalence value_eq
value_partial_equivalence = partial_equiv_from_equiv value_eq_equivalence

pub value_partial_order : IsPartialOrder value_eq value_partial_cmp
value_partial_order = po value_cmp_total (λ x y. refl)

pub row_cmp_total : IsTotalOrder row_cmp
row_cmp_total = on_total (λ row. row.values) (lists_total value_cmp_total)

pub row_eq_equivalence : IsEquivalence row_eq
row_eq_equivalence = eq_by_cmp_equiv row_cmp_total

pub row_partial_equivalence : IsPartialEquivalence row_eq
row_partial_equivalence = partial_equiv_from_equiv row_eq_equivalence

pub row_partial_order : IsPartialOrder row_eq row_partial_cmp
row_partial_order = po row_cmp_total (λ x y. refl)
