use Rattle.std.proofs.Common.{◌≡◌, drop}
use Rattle.std.specs.List.{flat_map}
use Rattle.psl_rules.specs.Relations.{leading_of}
use Rattle.psl_relations.proofs.Numbered.{numbered, behind}
use Rattle.psl_relations.proofs.relations.ends.Given as goal

abbrev pub invariant-loop-model : goal.invariant-loop-model
invariant-loop-model l =
    behind l.ends.items (flat_map (leading_of l.models) (drop l.model-index l.model-items)) ≡ numbered 0 (flat_map (leading_of l.models) l.model-items)
