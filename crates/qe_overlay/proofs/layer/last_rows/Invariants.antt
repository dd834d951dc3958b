use Rattle.std.proofs.Common.{◌≡◌, ◌≤◌, ◌++◌, reverse, length}
use Rattle.qe_overlay.proofs.layer.last_rows.Given as goal

-- the rows so far and those that are left, turned
abbrev pub invariant-rows : goal.invariant-rows
invariant-rows l = (l.last ++ reverse l.rest ≡ reverse l.fn.rows) × (length l.last ≤ l.count)

abbrev pub decreases-rows : goal.decreases-rows
decreases-rows l = length l.rest
