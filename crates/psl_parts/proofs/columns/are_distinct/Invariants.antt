use Rattle.std.proofs.Common.{◌≡◌, ◌==◌, length, map, drop, take}
use Rattle.std.specs.Prelude.{bytes_eq}
use Rattle.qe_text.specs.Lists.{repeats_behind}
use Rattle.psl_rules.specs.Attributes.{are_distinct_names}
use Rattle.psl_parts.proofs.columns.are_distinct.Given as goal

abbrev pub invariant-loop-number : goal.invariant-loop-number
invariant-loop-number l =
    (length (repeats_behind bytes_eq (map (λ name. name.now) (take l.number l.names)) (map (λ name. name.now) (drop l.number l.names))) == 0) ≡ are_distinct_names (map (λ name. name.now) l.names)
