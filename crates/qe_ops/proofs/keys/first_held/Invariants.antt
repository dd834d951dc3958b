use Rattle.std.proofs.Common.{◌≡◌, drop, None}
use Rattle.std.specs.Prelude.{IfSome}
use Rattle.qe_schema.specs.Put.{broken_key}
use Rattle.qe_ops.specs.Bounds.{loads_alone}
use Rattle.qe_ops.specs.Leaves.{Leaves, Same}
use Rattle.qe_ops.proofs.keys.first_held.Given as goal

-- none of the keys so far is held
abbrev pub invariant-loop-number : goal.invariant-loop-number
invariant-loop-number g l =
    let V = g.V.View in
    record {
      key : IfSome (V.seen l.initial.view).now (λ tables. broken_key (drop l.number l.keys) l.number l.row (tables.rows l.table.0) ≡ broken_key l.keys 0 l.row (tables.rows l.table.0));
      same : Same (V.seen l.initial.view) (V.seen l.view);
      stands : V.stands l.view;
      leaves : Leaves (loads_alone l.number) (V.seen l.initial.view) (V.seen l.view) None;
    }
