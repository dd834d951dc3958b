use Rattle.std.proofs.Common.{◌≡◌, ℕ, List, Bool, map, drop, filter}
use Rattle.std.specs.Prelude.{◌&&◌}
use Rattle.psl_rules.specs.declared.key.Key.{Key}
use Rattle.psl_rules.specs.Parts.{first, earlier}
use Rattle.psl_rules.specs.Keys.{key_place, is_long, names_field}
use Rattle.psl_keys.proofs.keys.first_named_among.Given as goal

abbrev pub invariant-loop-key : goal.invariant-loop-key
invariant-loop-key l =
    let named : List Key → List ℕ = λ keys. map key_place (filter (λ key. is_long key && names_field l.fields key.name.text) keys) in
    earlier l.found (first (named (drop l.key-index l.keys))) ≡ first (named l.keys)
