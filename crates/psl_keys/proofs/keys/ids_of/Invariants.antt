use Rattle.std.proofs.Common.{◌≡◌, ◌++◌, drop}
use Rattle.std.specs.List.{flat_map}
use Rattle.psl_rules.specs.Keys.{ids_in}
use Rattle.psl_keys.proofs.keys.ids_of.Given as goal

abbrev pub invariant-loop-entry : goal.invariant-loop-entry
invariant-loop-entry l = l.places.items ++ flat_map ids_in (drop l.entry-index l.entry-items) ≡ flat_map ids_in l.entry-items
