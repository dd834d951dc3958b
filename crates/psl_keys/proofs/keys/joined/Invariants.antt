use Rattle.std.proofs.Common.{◌≡◌, ◌++◌, ◌∷◌, map, drop}
use Rattle.std.specs.Prelude.{string_bytes}
use Rattle.psl_keys.proofs.Joins.{behind}
use Rattle.psl_keys.proofs.keys.joined.Given as goal

abbrev pub invariant-loop-name : goal.invariant-loop-name
invariant-loop-name l =
    string_bytes l.text ++ behind (map (λ name. name.now) (drop l.name-index l.others)) ≡ string_bytes l.initial.text ++ behind (map (λ name. name.now) l.others)
