-- The order of rows by columns is a total one.
use Rattle.std.specs.Cmp.{IsPartialEquivalence, IsEquivalence, IsPartialOrder, IsTotalOrder}
use Rattle.std.specs.Cmp.{then_total, on_total, eq_by_cmp_equiv, partial_equiv_from_equiv, po}
use Rattle.std.specs.Cmp.Lexicographic.{lists_total}
use Rattle.std.proofs.Common.{refl}
use Rattle.qe_base.specs.ValueOrder.{value_cmp_total}
use Rattle.qe_schema.specs.Columns.{values_cmp}
use Rattle.qe_mem.specs.Keys.{key_part, id_part, keyed_cmp, keyed_partial_cmp, keyed_eq, under, row_order}
use Rattle.qe_mem.specs.declared.keyed.Columns.{Columns}

pub values_cmp_total : IsTotalOrder values_cmp
values_cmp_total = lists_total value_cmp_total

pub keyed_cmp_total : IsTotalOrder keyed_cmp
keyed_cmp_total = then_total (on_total (λ k. key_part k.columns k.row) values_cmp_total) (on_total (λ k. id_part k.columns k.row) values_cmp_total)

pub row_order_total : (columns : Columns) → IsTotalOrder (row_order columns)
row_order_total columns = on_total (under columns) keyed_cmp_total

pub keyed_eq_equivalence : IsEquivalence keyed_eq
keyed_eq_equivalence = eq_by_cmp_equiv keyed_cmp_total

pub keyed_partial_equivalence : IsPartialEquivalence keyed_eq
keyed_partial_equivalence = partial_equiv_from_equiv keyed_eq_equivalence

pub keyed_partial_order : IsPartialOrder keyed_eq keyed_partial_cmp
keyed_partial_order = po keyed_cmp_total (λ x y. refl)
