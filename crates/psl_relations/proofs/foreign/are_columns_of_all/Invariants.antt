use Rattle.std.proofs.Common.{◌≡◌, Bool, List, map, drop, Bor}
use Rattle.std.specs.List.{list_all}
use Rattle.psl_text.specs.declared.tree.Block.{Block}
use Rattle.psl_rules.specs.Attributes.{name_columns}
use Rattle.psl_relations.proofs.foreign.are_columns_of_all.Given as goal

abbrev pub invariant-loop-model : goal.invariant-loop-model
invariant-loop-model l =
    let have_columns : List (Bor Block) → Bool = λ models. list_all (λ model. name_columns l.types model (map (λ name. name.now) l.names)) (map (λ model. model.now) models) in
    have_columns (drop l.model-index l.models) ≡ have_columns l.models
