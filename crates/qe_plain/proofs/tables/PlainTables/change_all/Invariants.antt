use Rattle.std.proofs.Common.{◌≡◌, true, drop, length}
use Rattle.std.specs.List.{list_all}
use Rattle.qe_view.specs.After.{after_all}
use Rattle.qe_view.specs.Attached.{shapes_of}
use Rattle.qe_view.specs.Right.{is_right}
use Rattle.qe_plain.specs.Kept.{tables_of}
use Rattle.qe_plain.proofs.tables.PlainTables.change_all.Given as goal

-- what is left to do of the changes is right, and makes of the tables what all of them make
abbrev pub invariant-loop-change : goal.invariant-loop-change
invariant-loop-change l = record {
  count : length l.self ≡ length l.fn.self;
  right : list_all (is_right (shapes_of l.layout)) (drop l.change-index l.changes) ≡ true;
  told : after_all (shapes_of l.layout) (drop l.change-index l.changes) (tables_of l.self) ≡ after_all (shapes_of l.layout) l.changes (tables_of l.fn.self);
}
