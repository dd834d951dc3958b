use Rattle.std.proofs.Common.{◌≡◌, ◌||◌, ℕ, List, map, drop, Bor}
use Rattle.std.specs.BTreeSet.{IsOrdered, contains}
use Rattle.qe_text.specs.Lists.{is_among}
use Rattle.psl_keys.specs.Gathered.{by_bytes}
use Rattle.psl_relations.proofs.key_sets.gathered.Given as goal

abbrev pub invariant-loop-name : goal.invariant-loop-name
invariant-loop-name l =
    IsOrdered by_bytes l.set
    × ((name : Bor (List ℕ)) → (contains by_bytes l.set name || is_among name.now (map (λ name. name.now) (drop l.name-index l.names))) ≡ is_among name.now (map (λ name. name.now) l.names))
