use Rattle.std.proofs.Common.{◌≡◌, false, drop}
use Rattle.psl_text.specs.Scan.{quoted}
use Rattle.psl_text.proofs.scan.string.Given as goal

-- the rest of the string decides what the whole one is
abbrev pub invariant-loop-at : goal.invariant-loop-at
invariant-loop-at l = quoted l.is_escaped l.at (drop l.at l.text) ≡ quoted false 1 (drop 1 l.text)
