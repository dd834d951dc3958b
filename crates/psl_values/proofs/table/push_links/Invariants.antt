use Rattle.std.proofs.Common.{◌≡◌, ◌++◌, map, drop}
use Rattle.psl_sound.specs.SchemaOf.{link_table}
use Rattle.psl_values.proofs.table.push_links.Given as goal

abbrev pub invariant-loop-pair : goal.invariant-loop-pair
invariant-loop-pair l =
    l.tables ++ map (link_table l.enums) (map (λ pair. pair.now) (drop l.pair-index l.linked)) ≡ l.fn.tables ++ map (link_table l.enums) (map (λ pair. pair.now) l.linked)
