use Rattle.std.proofs.Common.{◌≡◌, drop}
use Rattle.qe_mem.specs.Kept.{with_orders}
use Rattle.qe_mem.proofs.empty.keep_indexes.Given as goal

abbrev pub invariant-loop-index : goal.invariant-loop-index
invariant-loop-index l = with_orders l.ids (drop l.index-index l.indexes) l.orders ≡ with_orders l.ids l.indexes l.initial.orders
