use Rattle.std.proofs.Common.{◌≡◌, List, ℕ, map, drop}
use Rattle.psl_text.specs.declared.tree.Attribute.{Attribute}
use Rattle.psl_rules.specs.Parts.{first, earlier, failing}
use Rattle.psl_rules.specs.Attributes.{attribute_place}
use Rattle.psl_rules.specs.Defaults.{counts_rightly}
use Rattle.psl_keys.proofs.counters.first_wrong.Given as goal

abbrev pub invariant-loop-attribute : goal.invariant-loop-attribute
invariant-loop-attribute l =
    let places : List Attribute → List ℕ = failing (counts_rightly (map (λ id. id.now) l.ids) l.name) attribute_place in
    earlier l.found (first (places (drop l.attribute-index l.attributes))) ≡ first (places l.attributes)
