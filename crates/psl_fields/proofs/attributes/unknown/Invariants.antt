use Rattle.std.proofs.Common.{◌≡◌, map, drop}
use Rattle.psl_rules.specs.Parts.{first, earlier}
use Rattle.psl_rules.specs.Attributes.{unknown}
use Rattle.psl_fields.proofs.attributes.unknown.Given as goal

abbrev pub invariant-loop-attribute : goal.invariant-loop-attribute
invariant-loop-attribute l =
    earlier l.found (first (unknown (map (λ name. name.now) l.names) (drop l.attribute-index l.attributes))) ≡ first (unknown (map (λ name. name.now) l.names) l.attributes)
