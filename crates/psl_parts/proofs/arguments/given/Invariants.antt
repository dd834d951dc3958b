use Rattle.std.proofs.Common.{◌≡◌, drop}
use Rattle.std.specs.List.{find}
use Rattle.psl_rules.specs.Parts.{gives}
use Rattle.psl_parts.proofs.arguments.given.Given as goal

abbrev pub invariant-loop-argument : goal.invariant-loop-argument
invariant-loop-argument l = find (gives l.parameter l.alone) (drop l.argument-index l.argument-items) ≡ find (gives l.parameter l.alone) l.argument-items
