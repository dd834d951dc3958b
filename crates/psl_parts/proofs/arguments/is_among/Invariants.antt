use Rattle.std.proofs.Common.{◌≡◌, map, drop}
use Rattle.qe_text.specs.Lists.{is_among}
use Rattle.psl_parts.proofs.arguments.is_among.Given as goal

abbrev pub invariant-loop-other : goal.invariant-loop-other
invariant-loop-other l = is_among l.name (map (λ name. name.now) (drop l.other-index l.names)) ≡ is_among l.name (map (λ name. name.now) l.names)
