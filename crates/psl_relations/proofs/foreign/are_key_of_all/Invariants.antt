use Rattle.std.proofs.Common.{◌≡◌, Bool, List, map, drop, Bor}
use Rattle.std.specs.List.{list_all}
use Rattle.psl_text.specs.declared.tree.Block.{Block}
use Rattle.psl_rules.specs.Foreign.{are_required_key}
use Rattle.psl_relations.proofs.foreign.are_key_of_all.Given as goal

abbrev pub invariant-loop-model : goal.invariant-loop-model
invariant-loop-model l =
    let have_key : List (Bor Block) → Bool = λ models. list_all (λ model. are_required_key model (map (λ name. name.now) l.names)) (map (λ model. model.now) models) in
    have_key (drop l.model-index l.models) ≡ have_key l.models
