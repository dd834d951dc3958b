use Rattle.std.proofs.Common.{◌≡◌, Bool, List, ℕ, map, filter, drop}
use Rattle.std.specs.List.{list_any}
use Rattle.psl_rules.specs.Relations.{has_fields}
use Rattle.psl_relations.specs.Referred.{refers_to}
use Rattle.psl_relations.proofs.referred.Referred.has_one_of.Given as goal

abbrev pub invariant-loop-name : goal.invariant-loop-name
invariant-loop-name l =
    let is_referred : List ℕ → Bool = λ name. list_any (refers_to l.model name) (filter has_fields l.self) in
    list_any is_referred (map (λ name. name.now) (drop l.name-index l.names)) ≡ list_any is_referred (map (λ name. name.now) l.names)
