use Rattle.std.proofs.Common.{◌≡◌, ◌++◌, map, drop}
use Rattle.psl_values.specs.Named.{texts_of, end_names}
use Rattle.psl_values.proofs.numbered.names_of_all.Given as goal

abbrev pub invariant-loop-end : goal.invariant-loop-end
invariant-loop-end l = map texts_of l.all.items ++ map end_names (drop l.end-index l.ends) ≡ map end_names l.ends
