use Rattle.std.proofs.Common.{◌≡◌, ◌≤◌, ◌-◌, drop, length}
use Rattle.qe_view.specs.Layouts.{foreign_columns}
use Rattle.qe_mem.specs.Kept.{with_orders}
use Rattle.qe_mem.proofs.empty.keep_foreign.Given as goal

abbrev pub invariant-keys : goal.invariant-keys
invariant-keys l = (l.number ≤ length (foreign_columns l.table.0 l.layout.foreign_keys))
    × (with_orders l.ids (drop l.number (foreign_columns l.table.0 l.layout.foreign_keys)) l.orders ≡ with_orders l.ids (foreign_columns l.table.0 l.layout.foreign_keys) l.initial.orders)

abbrev pub decreases-keys : goal.decreases-keys
decreases-keys l = length (foreign_columns l.table.0 l.layout.foreign_keys) - l.number
