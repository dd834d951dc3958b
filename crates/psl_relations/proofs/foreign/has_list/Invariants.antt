use Rattle.std.proofs.Common.{◌≡◌, map, drop}
use Rattle.std.specs.List.{list_any}
use Rattle.psl_rules.specs.Relations.{is_list}
use Rattle.psl_relations.proofs.foreign.has_list.Given as goal

abbrev pub invariant-loop-end : goal.invariant-loop-end
invariant-loop-end l = list_any is_list (map (λ end. end.now) (drop l.end-index l.ends)) ≡ list_any is_list (map (λ end. end.now) l.ends)
