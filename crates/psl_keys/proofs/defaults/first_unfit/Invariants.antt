use Rattle.std.proofs.Common.{◌≡◌, List, ℕ, drop}
use Rattle.psl_text.specs.declared.tree.Attribute.{Attribute}
use Rattle.psl_rules.specs.Parts.{first, earlier, failing}
use Rattle.psl_rules.specs.Attributes.{attribute_place}
use Rattle.psl_keys.specs.Unfit.{fits}
use Rattle.psl_keys.proofs.defaults.first_unfit.Given as goal

abbrev pub invariant-loop-attribute : goal.invariant-loop-attribute
invariant-loop-attribute l =
    let places : List Attribute → List ℕ = failing (fits l.members l.kind) attribute_place in
    earlier l.found (first (places (drop l.attribute-index l.attributes))) ≡ first (places l.attributes)
