use Rattle.std.proofs.Common.{◌≡◌, ◌++◌, map, drop}
use Rattle.psl_rules.specs.Stored.{stored_model}
use Rattle.psl_relations.proofs.stored.push_models.Given as goal

abbrev pub invariant-loop-model : goal.invariant-loop-model
invariant-loop-model l =
    l.names.items ++ map stored_model (map (λ block. block.now) (drop l.model-index l.model-items)) ≡ l.fn.names.items ++ map stored_model (map (λ block. block.now) l.model-items)
