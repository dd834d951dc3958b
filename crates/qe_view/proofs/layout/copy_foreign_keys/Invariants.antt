use Rattle.std.proofs.Common.{◌≡◌, take}
use Rattle.qe_view.proofs.layout.copy_foreign_keys.Given as goal

abbrev pub invariant-loop-key : goal.invariant-loop-key
invariant-loop-key l = l.keys ≡ take l.key-index l.all
