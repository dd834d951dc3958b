use Rattle.std.proofs.Common.{◌≡◌, map, take}
use Rattle.psl_keys.proofs.keys.texts_of.Given as goal

abbrev pub invariant-loop-name : goal.invariant-loop-name
invariant-loop-name l = l.texts ≡ map (λ name. name.now) (take l.name-index l.names)
