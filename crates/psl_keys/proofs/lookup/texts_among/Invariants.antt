use Rattle.std.proofs.Common.{◌≡◌, ◌||◌, ℕ, List, map, drop}
use Rattle.std.specs.Prelude.{bytes_eq}
use Rattle.std.specs.List.{list_any}
use Rattle.psl_keys.proofs.lookup.texts_among.Given as goal

abbrev pub invariant-loop-name : goal.invariant-loop-name
invariant-loop-name l =
    (text : List ℕ) → (list_any (λ key. bytes_eq text key.now) l.texts.keys || list_any (λ name. bytes_eq text name.text) (map (λ name. name.now) (drop l.name-index l.names)))
    ≡ list_any (λ name. bytes_eq text name.text) (map (λ name. name.now) l.names)
