use Rattle.std.proofs.Common.{◌≡◌, ◌++◌, map, filter, drop}
use Rattle.psl_rules.specs.Relations.{is_linked}
use Rattle.psl_rules.specs.Stored.{stored_link}
use Rattle.psl_relations.proofs.stored.push_links.Given as goal

abbrev pub invariant-loop-pair : goal.invariant-loop-pair
invariant-loop-pair l = l.names.items ++ map stored_link (filter is_linked (drop l.pair-index l.pairs)) ≡ l.fn.names.items ++ map stored_link (filter is_linked l.pairs)
