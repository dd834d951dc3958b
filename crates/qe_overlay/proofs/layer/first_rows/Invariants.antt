use Rattle.std.proofs.Common.{◌≡◌, take, length}
use Rattle.qe_overlay.proofs.layer.first_rows.Given as goal

abbrev pub invariant-rows : goal.invariant-rows
invariant-rows l = take l.count l.first ≡ take l.count l.fn.rows

abbrev pub decreases-rows : goal.decreases-rows
decreases-rows l = length l.first
