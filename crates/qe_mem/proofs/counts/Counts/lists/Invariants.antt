use Rattle.std.proofs.Common.{◌≡◌, drop}
use Rattle.std.specs.List.{list_any}
use Rattle.qe_mem.specs.Counts.{is_listed}
use Rattle.qe_mem.proofs.counts.Counts.lists.Given as goal

abbrev pub invariant-loop-fail : goal.invariant-loop-fail
invariant-loop-fail l = list_any (is_listed l.call l.number) (drop l.fail-index l.self.fail) ≡ list_any (is_listed l.call l.number) l.self.fail
