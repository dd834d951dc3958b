use Rattle.std.proofs.Common.{◌≡◌, ◌++◌, map, drop}
use Rattle.std.specs.List.{enumerate_from}
use Rattle.psl_sound.specs.SchemaOf.{link_between}
use Rattle.psl_values.proofs.link.links_between.Given as goal

abbrev pub invariant-loop-number : goal.invariant-loop-number
invariant-loop-number l =
    l.links ++ map (link_between l.models) (enumerate_from l.number (map (λ pair. pair.now) (drop l.number l.linked)))
    ≡ map (link_between l.models) (enumerate_from 0 (map (λ pair. pair.now) l.linked))
