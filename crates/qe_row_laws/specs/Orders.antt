-- The orders of ids and of pairs.
use Rattle.std.specs.Prelude.{◌≡◌, true}
use Rattle.std.specs.Cmp.{IsTotalOrder}
use Rattle.qe_base.specs.declared.value.Value.{Value}
use Rattle.qe_schema.specs.Columns.{Values, are_same, values_cmp}
use Rattle.qe_schema.specs.Pairs.{pair_cmp, is_pair}

abbrev pub ValuesAreOrdered : Type 0
ValuesAreOrdered = IsTotalOrder values_cmp

abbrev pub SameValuesAreEqual : Type 0
SameValuesAreEqual = (one other : Values) → are_same one other ≡ true → one ≡ other

abbrev pub PairsAreOrdered : Type 0
PairsAreOrdered = IsTotalOrder pair_cmp

abbrev pub SamePairsAreEqual : Type 0
SamePairsAreEqual = (one other : Value × Value) → is_pair one other ≡ true → one ≡ other
