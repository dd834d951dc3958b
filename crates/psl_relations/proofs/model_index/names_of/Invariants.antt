use Rattle.std.proofs.Common.{◌≡◌, ◌++◌, List, ℕ, map, drop}
use Rattle.psl_rules.specs.Parts.{ModelField}
use Rattle.psl_relations.proofs.model_index.names_of.Given as goal

abbrev pub invariant-loop-field : goal.invariant-loop-field
invariant-loop-field l =
    let names : List ModelField → List (List ℕ) = map (λ field. field.name.text) in
    map (λ name. name.now) l.names.items ++ names (drop l.field-index l.fields) ≡ names l.fields
