use Rattle.std.proofs.Common.{◌≡◌, drop, map}
use Rattle.qe_mem.specs.Kept.{with_orders}
use Rattle.qe_mem.proofs.empty.keep_keys.Given as goal

abbrev pub invariant-loop-key : goal.invariant-loop-key
invariant-loop-key l = with_orders l.ids (map (λ key. key.columns) (drop l.key-index l.keys)) l.orders ≡ with_orders l.ids (map (λ key. key.columns) l.keys) l.initial.orders
