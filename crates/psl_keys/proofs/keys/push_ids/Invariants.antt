use Rattle.std.proofs.Common.{◌≡◌, ◌++◌, drop}
use Rattle.psl_rules.specs.Keys.{id_places}
use Rattle.psl_keys.proofs.keys.push_ids.Given as goal

abbrev pub invariant-loop-attribute : goal.invariant-loop-attribute
invariant-loop-attribute l = l.places.items ++ id_places (drop l.attribute-index l.attributes) ≡ l.fn.places.items ++ id_places l.attributes
