use Rattle.psl_rules.specs.Parts.{first}
use Rattle.std.proofs.Common.{map}
use Rattle.qe_text.specs.Lists.{repeats}
use Rattle.psl_rules.specs.Keys.{key_place, same_fields}
use Rattle.psl_keys.proofs.Sets.{Turns}
use Rattle.psl_keys.proofs.repeated.first_same_fields.Given as goal

abbrev pub invariant-loop-key : goal.invariant-loop-key
invariant-loop-key l = Turns l.keys l.key-index l.found l.seen (first (map key_place (repeats same_fields l.keys)))
