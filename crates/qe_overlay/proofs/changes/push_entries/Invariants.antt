use Rattle.std.proofs.Common.{◌≡◌, ◌++◌}
use Rattle.qe_overlay.specs.Settled.{all_entries}
use Rattle.qe_overlay.proofs.changes.push_entries.Given as goal

-- the changes so far, and those of the entries that are left
abbrev pub invariant-loop-id : goal.invariant-loop-id
invariant-loop-id l = l.changes ++ all_entries l.stage l.table l.id-iterator ≡ l.initial.changes ++ all_entries l.stage l.table l.entries.entries
