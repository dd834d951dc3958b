use Rattle.std.proofs.Common.{◌≡◌, ◌||◌, List, ℕ, filter, drop}
use Rattle.std.specs.List.{list_any}
use Rattle.psl_rules.specs.Relations.{has_fields}
use Rattle.psl_relations.specs.Referred.{has_field, refers_to}
use Rattle.psl_relations.proofs.referred.referred_fields.Given as goal

abbrev pub invariant-loop-end : goal.invariant-loop-end
invariant-loop-end l =
    (model name : List ℕ) → (has_field l.fields.keys model name || list_any (refers_to model name) (filter has_fields (drop l.end-index l.ends))) ≡ list_any (refers_to model name) (filter has_fields l.ends)
