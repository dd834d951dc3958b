use Rattle.std.proofs.Common.{◌≡◌, length}
use Rattle.qe_overlay.specs.Laid.{put_in}
use Rattle.qe_overlay.proofs.layer.lay.Given as goal

abbrev pub invariant-rows : goal.invariant-rows
invariant-rows l = put_in l.table l.rest l.laid.entries ≡ put_in l.table l.fn.rows l.fn.laid.entries

abbrev pub decreases-rows : goal.decreases-rows
decreases-rows l = length l.rest
