use Rattle.std.proofs.Common.{◌≡◌, List, ℕ, drop}
use Rattle.std.specs.List.{list_any, flat_map}
use Rattle.psl_rules.specs.Keys.{keys_in}
use Rattle.psl_relations.specs.Sets.{FieldSet, Collects, is_over}
use Rattle.psl_relations.proofs.Added.{has_or}
use Rattle.psl_relations.proofs.key_sets.sets_of.Given as goal

abbrev pub invariant-loop-entry : goal.invariant-loop-entry
invariant-loop-entry l =
    (set : FieldSet) (names : List (List ℕ)) → Collects set names → has_or l.sets (flat_map keys_in (drop l.entry-index l.entry-items)) set names ≡ list_any (is_over names) (flat_map keys_in l.entry-items)
