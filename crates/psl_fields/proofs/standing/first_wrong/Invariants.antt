use Rattle.std.proofs.Common.{◌≡◌, drop}
use Rattle.psl_rules.specs.Parts.{first, earlier, failing}
use Rattle.psl_rules.specs.Attributes.{stands_rightly, attribute_place}
use Rattle.psl_fields.proofs.standing.first_wrong.Given as goal

abbrev pub invariant-loop-attribute : goal.invariant-loop-attribute
invariant-loop-attribute l =
    earlier l.found (first (failing (stands_rightly l.types l.kind) attribute_place (drop l.attribute-index l.attributes))) ≡ first (failing (stands_rightly l.types l.kind) attribute_place l.attributes)
