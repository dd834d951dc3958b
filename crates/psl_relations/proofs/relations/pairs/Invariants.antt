use Rattle.std.proofs.Common.{◌≡◌, ◌++◌, List, drop}
use Rattle.std.specs.List.{flat_map}
use Rattle.psl_rules.specs.Relations.{End, Pair, pairs_with, partners_among}
use Rattle.psl_relations.proofs.relations.pairs.Given as goal

abbrev pub invariant-loop-end : goal.invariant-loop-end
invariant-loop-end l =
    let pairs : List End → List Pair = flat_map (λ end. pairs_with end (partners_among l.ends end)) in
    l.pairs.items ++ pairs (drop l.end-index l.ends) ≡ pairs l.ends
