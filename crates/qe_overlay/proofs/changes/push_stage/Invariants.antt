use Rattle.std.proofs.Common.{◌≡◌, ◌++◌, drop}
use Rattle.qe_overlay.specs.Settled.{stage_from, stage_changes}
use Rattle.qe_overlay.proofs.changes.push_stage.Given as goal

-- the changes so far, and those of the tables that are left
abbrev pub invariant-loop-number : goal.invariant-loop-number
invariant-loop-number l = l.changes ++ stage_from l.schema l.stage l.number (drop l.number l.layers) ≡ l.initial.changes ++ stage_changes l.schema l.stage l.layers
