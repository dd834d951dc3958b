use Rattle.std.proofs.Common.{◌≡◌, ◌++◌, map, drop, filter}
use Rattle.psl_rules.specs.Keys.{is_long}
use Rattle.psl_keys.proofs.keys.long_names.Given as goal

abbrev pub invariant-loop-key : goal.invariant-loop-key
invariant-loop-key l = map (λ name. name.now) l.names.items ++ map (λ key. key.name) (filter is_long (drop l.key-index l.keys)) ≡ map (λ key. key.name) (filter is_long l.keys)
