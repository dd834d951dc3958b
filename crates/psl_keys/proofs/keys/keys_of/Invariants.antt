use Rattle.std.proofs.Common.{◌≡◌, ◌++◌, drop}
use Rattle.std.specs.List.{flat_map}
use Rattle.psl_rules.specs.Keys.{keys_in}
use Rattle.psl_keys.proofs.keys.keys_of.Given as goal

abbrev pub invariant-loop-entry : goal.invariant-loop-entry
invariant-loop-entry l = l.keys.items ++ flat_map keys_in (drop l.entry-index l.entry-items) ≡ flat_map keys_in l.entry-items
